-- Lists one after the other, of k elements each, written over the front of a buffer. Assumes nothing.
use Prim.Native.Nat.{ℕ, ◌+◌, ◌*◌, ◌≤◌}
use native.Mathlib.Omega.{arith}
use mathlib.Core.Path.{◌≡◌, sym, ap, ◌∙◌}
use mathlib.Core.List.{List, ◌++◌}
use lib.ListN.{length, take, drop, length-append, length-drop}
use lib.Seq.{sets, sets-eq, take_at, drop_at, drop-drop}
use Rattle.sequence.specs.Sequence.{concat_to}
use Rattle.sequence.proofs.Concat.{concat_next, concat_length}

module _ {A : Type 0} (f : ℕ → List A) (k : ℕ) (sized : (i : ℕ) → length (f i) ≡ k) where
  pub over_none : (d : List A) → d ≡ concat_to 0 f ++ drop (k * 0) d
  unfolding concat_to
  over_none d = let z : k * 0 ≡ 0 = omega arith in rw z

  pub over_next : (n : ℕ) (d s : List A) → k * n + k ≤ length d → s ≡ concat_to n f ++ drop (k * n) d
      → sets s (k * n) (f n) ≡ concat_to (n + 1) f ++ drop (k * (n + 1)) d
  over_next n d s h e =
      let C = concat_to n f in
      let m : length C ≡ k * n = concat_length f k sized n in
      let q : length (f n) ≡ k = sized n in
      let w : k * (n + 1) ≡ k * n + k = omega arith in
      let long : length s ≡ length d = ap length e ∙ length-append C (drop (k * n) d) ∙ simp length-drop (omega arith) in
      let front : take (k * n) s ≡ C = ap (take (k * n)) e ∙ take_at C (drop (k * n) d) (k * n) m in
      let behind : drop (k * n) s ≡ drop (k * n) d = ap (drop (k * n)) e ∙ drop_at C (drop (k * n) d) (k * n) m in
      let rest : drop (k * n + k) s ≡ drop (k * n + k) d = sym (drop-drop k (k * n) s) ∙ ap (drop k) behind ∙ drop-drop k (k * n) d in
      sets-eq (f n) s (k * n) (omega arith) ∙ rw (q, front, rest, w, ← concat_next f n)
