-- The single-step fit, as solver/single_step.rs has it, and the outcome of the call. Definitions only.
use Rattle.std.specs.Prelude.{ℕ, true, length, replicate, Float}
use mathlib.Core.List.{List, zip_with}
use Rattle.std.specs.Float.Ieee.{add, sub}
use Rattle.std.specs.Float.{binary64}
use Rattle.float.specs.Float.{#0}
use Rattle.sequence.specs.Sequence.{at}
use Rattle.linalg.specs.Linalg.{Solved, solved}
use Rattle.solver.specs.declared.IterReport.{IterReport}
use Rattle.solver.specs.declared.SigmaBy.{SigmaBy}
use Rattle.solver.specs.Call.{FitInputs, Buffers, sizes_of}
use Rattle.validate.specs.Questions.{scratch_needed, asked_of, no_options}
use Rattle.design.specs.Design.{Run, run_of, rows_of, height_of, column_of, sky_of, differences, sky_differences}
use Rattle.design.specs.Design.{subtract_all, product, extracted, scattered, free_columns}
use Rattle.outcome.specs.Outcome.{Outcome, decided, finished}

-- ---- single_step_fit, of a run and the coefficients s that it starts from, one for each of its m terms

-- the residuals that the free terms are fitted to
unfoldable pub to_fit : Run → List Float → List Float
to_fit r s = subtract_all (length s) (at s) (sky_of r) (sky_differences r.stars)

-- solve_and_covariance of the free columns on the sky
unfoldable pub step : Run → List Float → Solved
step r s = solved (height_of r) (rows_of r) (length r.free) (free_columns r (sky_of r)) (to_fit r s) r.settings.fit_tol

-- a free term's change is the number at its place in x, a fixed term's is 0
abbrev pub change_from : Run → List Float → List Float
change_from r x = scattered r.free (at x) (replicate r.m #0)

unfoldable pub change : Run → List Float → List Float
change r s = change_from r (step r s).outcome.x

-- 0 is added to a fixed coefficient: -0 becomes +0
unfoldable pub new_coefficients : Run → List Float → List Float
new_coefficients r s = zip_with (add binary64) s (change r s)

-- the free terms' residuals on the sky
unfoldable pub free_residuals : Run → List Float → List Float
free_residuals r s =
    zip_with (sub binary64) (to_fit r s) (product (rows_of r) (length r.free) (at (step r s).outcome.x) (extracted r.free (sky_of r)))

-- actual_residuals_ha: the residuals under coefficients s, of which none is skipped
unfoldable pub actual_residuals : Run → List Float → List Float
actual_residuals r s = zip_with (sub binary64) (differences r.stars) (product (rows_of r) (length s) (at s) (column_of r))

-- ---- fit_model_with_inputs

-- one iteration, converged
abbrev pub once : IterReport
once = record { iterations = 1; converged = true; final_lambda = #0; final_step_norm = #0 }

-- of a run that needs so much of scratch
unfoldable pub fitted_run : Run → SigmaBy → ℕ → List Float → Buffers → Outcome
fitted_run r by need s b =
    finished r by need b (new_coefficients r s) (change r s) (step r s) (free_residuals r s) (actual_residuals r (new_coefficients r s)) once

abbrev pub fitted : FitInputs → SigmaBy → Buffers → Outcome
fitted l by b = fitted_run (run_of l) by (scratch_needed (length l.coefficients) (length l.dh)) l.coefficients b

unfoldable pub fit_outcome : FitInputs → SigmaBy → Buffers → Outcome
fit_outcome l by b = decided (asked_of l no_options (sizes_of b)) (fitted l by b) b
