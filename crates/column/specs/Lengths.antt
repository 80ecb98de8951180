-- A column that changes keeps its length.
use Rattle.std.specs.Prelude.{◌≡◌, Bool, true, false, cond, List, ℕ, length, refl, Float}
use Rattle.std.proofs.lemmas.List.{length-map}
use Rattle.std.specs.Float.Ieee.{lt}
use Rattle.float.specs.Float.{◌⊗◌, ◌⊘◌, #0, #1}
use Rattle.column.specs.Column.{scaled_column, unit_column}

length-cond : (t : Bool) (x y : List Float) (n : ℕ) → length x ≡ n → length y ≡ n → length (cond t x y) ≡ n
length-cond true x y n e f = e
length-cond false x y n e f = f

pub length-scaled : (n : Float) (x : List Float) → length (scaled_column n x) ≡ length x
unfolding scaled_column
length-scaled n x = length-cond (lt #0 n) _ _ (length x) (length-map x (λ a. a ⊗ (#1 ⊘ n))) refl

pub length_unit : (s : Float) (x : List Float) → length (unit_column s x) ≡ length x
unfolding unit_column
length_unit s x = length-cond (lt #0 s) _ _ (length x) (length-map x (λ a. a ⊘ s)) (length-map x (λ a. #0))
