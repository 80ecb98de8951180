-- A loop over `r.chunks_exact(2).enumerate()`: which two numbers a turn has. Assumes nothing.
use Prim.Native.Nat.{ℕ, suc, ◌+◌, ◌*◌, ◌≤◌, ◌<◌}
use native.Mathlib.Omega.{arith}
use mathlib.Core.Path.{◌≡◌, sym, ap, subst, ◌∙◌}
use mathlib.Core.List.{List, [], ◌∷◌, ◌++◌}
use lib.ListN.{length, get_or, get_or-append, drop, length-append, length-drop}
use lib.Seq.{get_or-drop, drop_at, drop-drop}
use denote.Ref.{Bor}
use Rattle.std.specs.Prelude.{Option, Some}
use Rattle.std.specs.declared.iter.Enumerate.{Enumerate}
use Rattle.std.specs.declared.slice.ChunksExact.{ChunksExact}
use Rattle.std.specs.Iterator.{Yields}
use Rattle.std.specs.Iterator.Adapters.{enumerate_source, enumerate_count, enumerate_steps}
use Rattle.std.specs.Slice.Iter.{chunks_exact_rest, chunks_exact_size, chunks_exact_steps}

module _ {A : Type 0} where
  abbrev pub Steps : Enumerate (ChunksExact A) → Option (ℕ × Bor (List A)) → Enumerate (ChunksExact A) → Type 0
  Steps = enumerate_steps chunks_exact_steps

  -- t has what is left of s after n turns
  record Left (n : ℕ) (s t : Enumerate (ChunksExact A)) : Type 0 where
    size : chunks_exact_size (enumerate_source t) ≡ 2
    count : enumerate_count t ≡ n + enumerate_count s
    chunks : chunks_exact_rest (enumerate_source t) ≡ drop (2 * n) (chunks_exact_rest (enumerate_source s))
    long : 2 * n ≤ length (chunks_exact_rest (enumerate_source s))

  left : (xs : List (ℕ × Bor (List A))) (s t : Enumerate (ChunksExact A)) → chunks_exact_size (enumerate_source s) ≡ 2 → Yields Steps s xs t
      → Left (length xs) s t
  left [] s t two y = record {
    size = ap (λ z. chunks_exact_size (enumerate_source z)) (sym y) ∙ two;
    count = omega (arith, ap enumerate_count y);
    chunks = ap (λ z. chunks_exact_rest (enumerate_source z)) (sym y);
    long = omega arith;
  }
  left (x ∷ xs) s t two y =
      let k = left xs y.0 t (y.1.0.0 ∙ two) y.2 in
      let n = length xs in
      let e : chunks_exact_rest (enumerate_source s) ≡ x.1.now ++ chunks_exact_rest (enumerate_source y.0) = y.1.0.1.0 in
      let long : length x.1.now ≡ 2 = y.1.0.1.1 ∙ two in
      let twice : 2 + 2 * n ≡ 2 * suc n = omega arith in
      let rest : drop 2 (chunks_exact_rest (enumerate_source s)) ≡ chunks_exact_rest (enumerate_source y.0) = ap (drop 2) e ∙ drop_at x.1.now _ 2 long in
      record {
        size = k.size;
        count = omega (arith, k.count, y.1.2);
        chunks = k.chunks ∙ ap (drop (2 * n)) (sym rest) ∙ drop-drop (2 * n) 2 _ ∙ ap (λ i. drop i (chunks_exact_rest (enumerate_source s))) twice;
        long = omega (arith, k.long, ap length e, length-append x.1.now (chunks_exact_rest (enumerate_source y.0)));
      }

  -- of the pairs xs that came before, and the numbers l
  module _ (l : List A) (xs : List (ℕ × Bor (List A))) (s t u : Enumerate (ChunksExact A)) (r : Option (ℕ × Bor (List A)))
      (first : chunks_exact_rest (enumerate_source s) ≡ l) (two : chunks_exact_size (enumerate_source s) ≡ 2) (zero : enumerate_count s ≡ 0)
      (y : Yields Steps s xs t) where
    pub numbered_turn : (p : ℕ × Bor (List A)) → r ≡ Some p → Steps t r u
        → (p.0 ≡ length xs) × (length p.1.now ≡ 2) × (2 * length xs + 1 < length l)
        × ((d : A) → get_or p.1.now 0 d ≡ get_or l (2 * length xs) d) × ((d : A) → get_or p.1.now 1 d ≡ get_or l (2 * length xs + 1) d)
    numbered_turn p e h =
        let k = left xs s t two y in
        let n = length xs in
        let g : Steps t (Some p) u = subst (λ o. Steps t o u) e h in
        let long : length p.1.now ≡ 2 = g.0.1.1 ∙ k.size in
        let rest = chunks_exact_rest (enumerate_source u) in
        let a : p.1.now ++ rest ≡ drop (2 * n) l = sym g.0.1.0 ∙ k.chunks ∙ ap (drop (2 * n)) first in
        let twice : 2 * n + 0 ≡ 2 * n = omega arith in (
          omega (arith, g.1, k.count, zero),
          long,
          omega (arith, ap length a, length-append p.1.now rest, length-drop (2 * n) l),
          (λ d. sym (get_or-append p.1.now rest d 0 (omega arith)) ∙ ap (λ z. get_or z 0 d) a ∙ get_or-drop (2 * n) l 0 d ∙ ap (λ i. get_or l i d) twice),
          λ d. sym (get_or-append p.1.now rest d 1 (omega arith)) ∙ ap (λ z. get_or z 1 d) a ∙ get_or-drop (2 * n) l 1 d,
        )
