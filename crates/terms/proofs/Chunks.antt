-- A loop over `l.chunks_exact(w).take(k)`: which part of l a turn has, and that there are k turns. Assumes nothing.
use Prim.Native.Nat.{ℕ, suc, ◌+◌, ◌-◌, ◌*◌, ◌≤◌, ◌<◌}
use native.Mathlib.Omega.{arith}
use native.Mathlib.Nat.{mul-suc, mul-le-mul_left}
use mathlib.Core.Path.{◌≡◌, refl, sym, ap, subst, ◌∙◌}
use lib.Dec.{ltb}
use borrow.Author.Tests.{ltb-true, ltb-false}
use mathlib.Core.Bool.{Bool, true, false}
use mathlib.Core.List.{List, [], ◌∷◌, ◌++◌}
use lib.ListN.{length, drop, take, length-append, length-drop}
use lib.Seq.{drop_at, drop-drop, take_at}
use denote.Ref.{Bor}
use Rattle.std.specs.Prelude.{Option, None, Some}
use Rattle.std.specs.declared.iter.Take.{Take}
use Rattle.std.specs.declared.slice.ChunksExact.{ChunksExact}
use Rattle.std.specs.Iterator.{Yields}
use Rattle.std.specs.Iterator.Adapters.{take_source, take_count, take_steps}
use Rattle.std.specs.Slice.Iter.{chunks_exact_rest, chunks_exact_size, chunks_exact_steps}
use Rattle.sequence.specs.Sequence.{part}

module _ {A : Type 0} (w : ℕ) where
  abbrev pub Steps : Take (ChunksExact A) → Option (Bor (List A)) → Take (ChunksExact A) → Type 0
  Steps = take_steps chunks_exact_steps

  abbrev rest : Take (ChunksExact A) → List A
  rest s = chunks_exact_rest (take_source s)

  -- t has what is left of s after n turns
  record Left (n : ℕ) (s t : Take (ChunksExact A)) : Type 0 where
    size : chunks_exact_size (take_source t) ≡ w
    chunks : rest t ≡ drop (w * n) (rest s)
    count : take_count t + n ≡ take_count s
    long : w * n ≤ length (rest s)

  left : (xs : List (Bor (List A))) (s t : Take (ChunksExact A)) → chunks_exact_size (take_source s) ≡ w → Yields Steps s xs t → Left (length xs) s t
  left [] s t e y =
      let none : 0 ≡ w * 0 = omega arith in
      record {
        size = ap (λ z. chunks_exact_size (take_source z)) (sym y) ∙ e;
        chunks = ap rest (sym y) ∙ ap (λ i. drop i (rest s)) none;
        count = omega (arith, ap take_count y);
        long = omega arith;
      }
  left (x ∷ xs) s t e y =
      let k = left xs y.0 t (y.1.0.0 ∙ e) y.2 in
      let n = length xs in
      let front : rest s ≡ x.now ++ rest y.0 = y.1.0.1.0 in
      let one : length x.now ≡ w = y.1.0.1.1 ∙ e in
      let more : w + w * n ≡ w * suc n = omega (arith, mul-suc w n) in
      let later : drop w (rest s) ≡ rest y.0 = ap (drop w) front ∙ drop_at x.now _ w one in
      record {
        size = k.size;
        chunks = k.chunks ∙ ap (drop (w * n)) (sym later) ∙ drop-drop (w * n) w (rest s) ∙ ap (λ i. drop i (rest s)) more;
        count = omega (arith, k.count, y.1.1);
        long = omega (arith, k.long, ap length front, length-append x.now (rest y.0), more, one);
      }

  -- after the chunks xs of the first k of l
  module _ (l : List A) (k : ℕ) (xs : List (Bor (List A))) (s t u : Take (ChunksExact A)) (r : Option (Bor (List A)))
      (first : rest s ≡ l) (size : chunks_exact_size (take_source s) ≡ w) (count : take_count s ≡ k) (y : Yields Steps s xs t) where
    pub chunk_turn : (p : Bor (List A)) → r ≡ Some p → Steps t r u → (length xs < k) × (p.now ≡ part l (w * length xs) w)
    chunk_turn p e h =
        let m = left xs s t size y in
        let g : Steps t (Some p) u = subst (λ o. Steps t o u) e h in
        let long : length p.now ≡ w = g.0.1.1 ∙ m.size in
        let here : p.now ++ rest u ≡ drop (w * length xs) l = sym g.0.1.0 ∙ m.chunks ∙ ap (drop (w * length xs)) first in
        (omega (arith, m.count, g.1, count), sym (take_at p.now (rest u) w long) ∙ ap (take w) here)

    pub chunk_end : w * k ≤ length l → 0 < w → r ≡ None → Steps t r u → length xs ≡ k
    chunk_end enough wide e h =
        let m = left xs s t size y in
        by (ltb 0 (take_count t)) refl m (subst (λ o. Steps t o u) e h)
      where
        by : (b : Bool) → ltb 0 (take_count t) ≡ b → Left (length xs) s t → Steps t None u → length xs ≡ k
        by false q m g = let z = ltb-false 0 (take_count t) q in omega (arith, m.count, count)
        by true q m g =
            let short : length (rest t) < chunks_exact_size (take_source t) = (g (ltb-true 0 (take_count t) q)).1.0 in
            let left-over : length (rest t) ≡ length l - w * length xs = ap length m.chunks ∙ length-drop (w * length xs) (rest s) ∙ ap (λ z. length z - w * length xs) first in
            let one : w * suc (length xs) ≤ w * k = mul-le-mul_left w (omega (arith, m.count, count, ltb-true 0 (take_count t) q)) in
            absurd (omega (arith, mul-suc w (length xs), m.size))
