-- Lists in step, and a copy within a list. Assumes nothing.
use native.Mathlib.Omega.{arith}
use mathlib.Core.Path.{◌≡◌, refl, ap}
use mathlib.Core.List.{List, [], ◌∷◌, zip_with}
use lib.ListN.{length}

pub zip_turned : {A B C : Type 0} (f : A → B → C) (xs : List A) (ys : List B) → zip_with (λ y x. f x y) ys xs ≡ zip_with f xs ys
unfolding zip_with
zip_turned f [] [] = refl
zip_turned f [] (y ∷ ys) = refl
zip_turned f (x ∷ xs) [] = refl
zip_turned f (x ∷ xs) (y ∷ ys) = ap (λ l. f x y ∷ l) (zip_turned f xs ys)

-- the second of each two
pub zip_second : {A : Type 0} (xs ys : List A) → length ys ≡ length xs → zip_with (λ x y. y) xs ys ≡ ys
unfolding zip_with
zip_second [] [] e = refl
zip_second [] (y ∷ ys) e = absurd (omega arith)
zip_second (x ∷ xs) [] e = refl
zip_second (x ∷ xs) (y ∷ ys) e = ap (λ l. y ∷ l) (zip_second xs ys (omega arith))
