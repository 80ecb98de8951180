-- Folds over a list: a test of each element that goes on to the end, and the sum of the squares. Assumes nothing.
use mathlib.Core.List.{zip_with, foldl}
use Rattle.std.specs.Float.{binary64}
use Rattle.std.specs.Float.Ieee.{add, mul}
use Rattle.std.proofs.Common.{◌≡◌, refl, Bool, true, false, ◌&&◌, List, [], ◌∷◌, Float, fold}
use Rattle.float.specs.Float.{#0, ◌⊕◌, ◌⊗◌}
use Rattle.sequence.specs.Sequence.{every, dot}

fold_false : {A : Type 0} (p : A → Bool) (s : List A) → fold (λ all x. all && p x) false s ≡ false
fold_false p [] = refl
fold_false p (x ∷ s) = fold_false p s

pub fold-every : {A : Type 0} (p : A → Bool) (s : List A) → fold (λ all x. all && p x) true s ≡ every p s
fold-every p [] = refl
fold-every {A} p (x ∷ s) = elim (p x) as (λ b. fold (λ all y. all && p y) b s ≡ (b && every p s)) [ true ↦ fold-every p s | false ↦ fold_false p s ]

squares : (t : Float) (r : List Float) → fold (λ t x. t ⊕ x ⊗ x) t r ≡ foldl (add binary64) t (zip_with (mul binary64) r r)
unfolding zip_with
squares t [] = refl
squares t (x ∷ r) = squares (t ⊕ x ⊗ x) r

pub fold-dot : (r : List Float) → fold (λ t x. t ⊕ x ⊗ x) #0 r ≡ dot r r
unfolding dot
fold-dot r = squares #0 r
