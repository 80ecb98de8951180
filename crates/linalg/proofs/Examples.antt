-- antt runs the definitions: small systems whose answers are known.
use mathlib.Core.Path.{◌≡◌, refl}
use mathlib.Core.Bool.{true}
use mathlib.Core.List.{[], ◌∷◌, zip_with}
use lib.Ieee.{Float, add, sub, mul, div, neg, lt, le, eq, of_bits, binary64}
use Rattle.float.specs.Float.{#0, #1, abs}
use Rattle.sequence.specs.Sequence.{at, table, filled, each, sum_to, sum_but, dot}
use Rattle.sqrt.specs.Sqrt as Root
use Rattle.jacobi.specs.Jacobi.{zeta_of, tan_of, cos_of, turn, pair, row, sweep, sweeps}
use Rattle.column.specs.Column.{norm, norms, scale_of, scaled_column, unit_column, columns, diagonal, diagonals, extended}
use Rattle.order.specs.Order.{best, order}
use Rattle.linalg.specs.Linalg.{threshold, inverse, inverses, rank_to, projected, x_scaled, solution, scaled_variance, covariance}
use Rattle.linalg.specs.Linalg.{leverage_of, decomposed, Solved, answered, solved, solved_damped, leverage_after}

abbrev #10 : Float
#10 = of_bits binary64 0x4024_0000_0000_0000

abbrev #15 : Float
#15 = of_bits binary64 0x402e_0000_0000_0000

abbrev #20 : Float
#20 = of_bits binary64 0x4034_0000_0000_0000

abbrev quarter : Float
quarter = of_bits binary64 0x3fd0_0000_0000_0000

-- the four stars of docs/SCOPE.md 12.1: one column, of which every other row is 1
abbrev four : Solved
four =
    solved 10 8 1 (#0 ∷ #1 ∷ #0 ∷ #1 ∷ #0 ∷ #1 ∷ #0 ∷ #1 ∷ #0 ∷ #0 ∷ [])
    (#0 ∷ #10 ∷ #0 ∷ #20 ∷ #0 ∷ #10 ∷ #0 ∷ #20 ∷ []) #0

-- two equal columns of one 1
abbrev equal : Solved
equal = solved 4 2 2 (#1 ∷ #0 ∷ #0 ∷ #0 ∷ #1 ∷ #0 ∷ #0 ∷ #0 ∷ []) (#10 ∷ #0 ∷ []) (of_bits binary64 0x3f50_0000_0000_0000)

-- a damping of 3 on a column of one 1
abbrev damped : Solved
damped = solved_damped 3 1 1 (#1 ∷ #0 ∷ #0 ∷ []) (#10 ∷ []) (of_bits binary64 0x4008_0000_0000_0000) #0

-- the four stars have coefficient 15 and leverage 1/4 each; equal columns have rank 1 after one sweep that turns and one that doesn't;
-- damping gives 10 / (1 + 3)
cases : (at four.outcome.x 0 ≡ #15)
    × (four.outcome.rank ≡ 1)
    × (table 8 (leverage_after 10 1 four) ≡ #0 ∷ quarter ∷ #0 ∷ quarter ∷ #0 ∷ quarter ∷ #0 ∷ quarter ∷ [])
    × (equal.outcome.rank ≡ 1)
    × (equal.outcome.sweeps ≡ 2)
    × (equal.outcome.settled ≡ true)
    × (at damped.outcome.x 0 ≡ of_bits binary64 0x4004_0000_0000_0000)
unfolding solved_damped solved answered decomposed norms norm scale_of scaled_column unit_column columns diagonal diagonals extended filled table each dot sum_to
    sum_but inverses inverse rank_to projected x_scaled solution scaled_variance covariance leverage_of threshold order best sweeps sweep row pair turn zeta_of
    tan_of cos_of zip_with add sub mul div neg lt le eq of_bits abs Root.sqrt
cases = (refl, refl, refl, refl, refl, refl, refl)
