-- A loop over `r.chunks_exact(2).zip(us)`: which two numbers and which element a turn has. Assumes nothing.
use Prim.Native.Nat.{ℕ, suc, ◌+◌, ◌*◌, ◌≤◌, ◌<◌}
use native.Mathlib.Omega.{arith}
use mathlib.Core.Path.{◌≡◌, sym, ap, subst, ◌∙◌}
use mathlib.Core.List.{List, [], ◌∷◌, ◌++◌}
use mathlib.Core.Logic.{inl, inr}
use lib.ListN.{length, get_or, get_or-append, drop, length-append, length-drop}
use lib.Seq.{get_or-drop, drop_at, drop-drop}
use denote.Ref.{Bor}
use Rattle.std.proofs.iter.Yields.{fronts}
use Rattle.std.proofs.lemmas.Iterator.{zips}
use Rattle.std.proofs.lemmas.List.{nil_from_length}
use Rattle.std.specs.Prelude.{Option, None, Some}
use Rattle.std.specs.declared.iter.Zip.{Zip}
use Rattle.std.specs.declared.slice.Iter.{Iter}
use Rattle.std.specs.declared.slice.ChunksExact.{ChunksExact}
use Rattle.std.specs.Iterator.{Yields}
use Rattle.std.specs.Iterator.Adapters.{zip_first, zip_second}
use Rattle.std.specs.Slice.Iter.{iter_rest, chunks_exact_rest, chunks_exact_size, chunks_exact_steps}

module _ {A B : Type 0} where
  abbrev pub Steps : Zip (ChunksExact A) (Iter B) → Option (Bor (List A) × Bor B) → Zip (ChunksExact A) (Iter B) → Type 0
  Steps = zips chunks_exact_steps fronts

  -- t has what is left of s after n turns
  record Left (n : ℕ) (s t : Zip (ChunksExact A) (Iter B)) : Type 0 where
    size : chunks_exact_size (zip_first t) ≡ 2
    chunks : chunks_exact_rest (zip_first t) ≡ drop (2 * n) (chunks_exact_rest (zip_first s))
    others : iter_rest (zip_second t) ≡ drop n (iter_rest (zip_second s))
    long : 2 * n ≤ length (chunks_exact_rest (zip_first s))
    few : n ≤ length (iter_rest (zip_second s))

  left : (xs : List (Bor (List A) × Bor B)) (s t : Zip (ChunksExact A) (Iter B)) → chunks_exact_size (zip_first s) ≡ 2 → Yields Steps s xs t
      → Left (length xs) s t
  left [] s t two y = record {
    size = ap (λ z. chunks_exact_size (zip_first z)) (sym y) ∙ two;
    chunks = ap (λ z. chunks_exact_rest (zip_first z)) (sym y);
    others = ap (λ z. iter_rest (zip_second z)) (sym y);
    long = omega arith;
    few = omega arith;
  }
  left (x ∷ xs) s t two y =
      let k = left xs y.0 t (y.1.0.0 ∙ two) y.2 in
      let n = length xs in
      let e : chunks_exact_rest (zip_first s) ≡ x.0.now ++ chunks_exact_rest (zip_first y.0) = y.1.0.1.0 in
      let long : length x.0.now ≡ 2 = y.1.0.1.1 ∙ two in
      let twice : 2 + 2 * n ≡ 2 * suc n = omega arith in
      let rest : drop 2 (chunks_exact_rest (zip_first s)) ≡ chunks_exact_rest (zip_first y.0) = ap (drop 2) e ∙ drop_at x.0.now _ 2 long in
      record {
        size = k.size;
        chunks = k.chunks ∙ ap (drop (2 * n)) (sym rest) ∙ drop-drop (2 * n) 2 _ ∙ ap (λ i. drop i (chunks_exact_rest (zip_first s))) twice;
        others = k.others ∙ sym (ap (drop (suc n)) y.1.1);
        long = omega (arith, k.long, ap length e, length-append x.0.now (chunks_exact_rest (zip_first y.0)));
        few = omega (arith, k.few, ap length y.1.1);
      }

  -- of the pairs xs that came before, the numbers l and the elements us
  module _ (l : List A) (us : List B) (xs : List (Bor (List A) × Bor B)) (s t u : Zip (ChunksExact A) (Iter B)) (r : Option (Bor (List A) × Bor B))
      (first : chunks_exact_rest (zip_first s) ≡ l) (two : chunks_exact_size (zip_first s) ≡ 2) (second : iter_rest (zip_second s) ≡ us)
      (y : Yields Steps s xs t) where
    pub pair_turn : (p : Bor (List A) × Bor B) → r ≡ Some p → Steps t r u
        → (length p.0.now ≡ 2) × (2 * length xs + 1 < length l) × (length xs < length us)
        × ((d : A) → get_or p.0.now 0 d ≡ get_or l (2 * length xs) d) × ((d : A) → get_or p.0.now 1 d ≡ get_or l (2 * length xs + 1) d)
        × ((d : B) → p.1.now ≡ get_or us (length xs) d)
    pair_turn p e h =
        let k = left xs s t two y in
        let n = length xs in
        let g : Steps t (Some p) u = subst (λ o. Steps t o u) e h in
        let long : length p.0.now ≡ 2 = g.0.1.1 ∙ k.size in
        let a : p.0.now ++ chunks_exact_rest (zip_first u) ≡ drop (2 * n) l = sym g.0.1.0 ∙ k.chunks ∙ ap (drop (2 * n)) first in
        let b : p.1.now ∷ iter_rest (zip_second u) ≡ drop n us = sym g.1 ∙ k.others ∙ ap (drop n) second in
        let none : n + 0 ≡ n = omega arith in
        let twice : 2 * n + 0 ≡ 2 * n = omega arith in (
          long,
          omega (arith, ap length a, length-append p.0.now (chunks_exact_rest (zip_first u)), length-drop (2 * n) l),
          omega (arith, ap length b, length-drop n us),
          (λ d. sym (get_or-append p.0.now (chunks_exact_rest (zip_first u)) d 0 (omega arith)) ∙ ap (λ z. get_or z 0 d) a ∙ get_or-drop (2 * n) l 0 d
              ∙ ap (λ i. get_or l i d) twice),
          (λ d. sym (get_or-append p.0.now (chunks_exact_rest (zip_first u)) d 1 (omega arith)) ∙ ap (λ z. get_or z 1 d) a ∙ get_or-drop (2 * n) l 1 d),
          λ d. ap (λ z. get_or z 0 d) b ∙ get_or-drop n us 0 d ∙ ap (λ i. get_or us i d) none,
        )

    pub pair_end : length l ≡ 2 * length us → r ≡ None → Steps t r u → length xs ≡ length us
    pair_end count e h = by (subst (λ o. Steps t o u) e h)
      where
        by : Steps t None u → length xs ≡ length us
        by (inl a) =
            let k = left xs s t two y in
            let rest = length-drop (2 * length xs) (chunks_exact_rest (zip_first s)) in
            omega (arith, k.long, k.few, a.1.1.0, k.size, ap length k.chunks, ap length first, ap length second, rest)
        by (inr b) =
            let k = left xs s t two y in
            let none : iter_rest (zip_second t) ≡ [] = nil_from_length _ b.1.0 in
            omega (arith, k.few, ap length none, ap length k.others, ap length second, length-drop (length xs) (iter_rest (zip_second s)))
