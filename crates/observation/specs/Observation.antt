-- The side of the pier, by its code and as a sign, from docs/SCOPE.md 3.2 and observation.rs; a pair of contributions. Definitions only.
use Rattle.std.specs.Prelude.{ℕ, cond, eqb, Float}
use Rattle.std.specs.Float.Ieee.{neg}
use Rattle.float.specs.Float.{#1}
use Rattle.observation.specs.declared.Pair.{Pair}
use Rattle.observation.specs.declared.PierSide.{PierSide}
use Rattle.observation.specs.declared.PierSide.TheVariants.{East, West, Unknown}

abbrev pub sign_of : PierSide → Float
sign_of East = #1
sign_of West = neg #1
sign_of Unknown = #1

-- 1 East, 2 West, 0 Unknown; every other code is Unknown too (question 5 refuses those above 2)
abbrev pub side_of : ℕ → PierSide
side_of code = cond (eqb code 1) East (cond (eqb code 2) West Unknown)

abbrev pub pair_of : Float → Float → Pair
pair_of dh dd = record { dh = dh; dd = dd }
