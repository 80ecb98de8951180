-- How a run lies in scratch: for n stars, room for the column of one term, a product or the residuals, the right side b, and the residuals on the sky, which
-- the Huber weights belong to, 2·n numbers each; then from 8·n on the columns that the solver works on. Definitions only.
use Rattle.std.specs.Prelude.{ℕ, ◌+◌, ◌*◌, ◌≤◌, List, length, Float}
use Rattle.sequence.specs.Sequence.{part}
use Rattle.linalg.specs.declared.SolveOutcome.{SolveOutcome}
use Rattle.linalg.specs.Linalg.{Solved}
use Rattle.design.specs.Design.{RunInputs}
use Rattle.design.specs.Counted.{Counted}

-- how many stars count, and how many numbers a column has
abbrev pub count_of : RunInputs → ℕ
count_of l = length l.used

abbrev pub height_in : RunInputs → ℕ
height_in l = 2 * count_of l + 2 * l.m

abbrev pub residuals_in : RunInputs → List Float → List Float
residuals_in l w = part w (2 * count_of l) (2 * count_of l)

abbrev pub b_in : RunInputs → List Float → List Float
b_in l w = part w (4 * count_of l) (2 * count_of l)

abbrev pub sky_in : RunInputs → List Float → List Float
sky_in l w = part w (6 * count_of l) (2 * count_of l)

abbrev pub columns_in : RunInputs → List Float → List Float
columns_in l w = part w (8 * count_of l) (length l.free * height_in l)

-- a solver's answer with its columns
abbrev pub solved_in : RunInputs → List Float → SolveOutcome → Solved
solved_in l w o = record { outcome = o; w = columns_in l w }

-- what the functions of a fit count on: there is room for every term's column
pub record Fits (l : RunInputs) (w : List Float) : Type 0 where
  pub counted : Counted l
  pub room : 8 * count_of l + l.m * height_in l ≤ length w
