-- The sweeps that an accepted fit tells of are those of its only solve. Assumes nothing.
use mathlib.Core.Path.{◌≡◌, refl}
use mathlib.Core.Bool.{true}
use lib.ListN.{length}
use Rattle.std.specs.Prelude.{Ok}
use Rattle.jacobi.specs.Jacobi.{SweepsInLimit}
use Rattle.linalg.proofs.Sweeps.{sweeps-made, sweeps_settled}
use Rattle.solver.specs.declared.FitResult.{FitResult}
use Rattle.solver.specs.declared.SigmaBy.{SigmaBy}
use Rattle.solver.specs.Call.{FitInputs, Buffers, sizes_of}
use Rattle.design.specs.Design.{run_of, sky_of}
use Rattle.validate.specs.Questions.{asked_of, no_options}
use Rattle.outcome.specs.Outcome.{factorised_in, Tells, finished}
use Rattle.outcome.proofs.Sweeps as Sweeps
use Rattle.single_step.specs.SingleStep.{step, fitted_run, fitted, fit_outcome}

module _ (l : FitInputs) (by : SigmaBy) (b : Buffers) (x : FitResult) (done : (fit_outcome l by b).answer ≡ Ok x) where
  pub tells : let r = run_of l in Tells (factorised_in r (sky_of r)) x
  unfolding fit_outcome fitted_run finished step
  tells =
      let r = run_of l in
      Sweeps.tells (asked_of l no_options (sizes_of b)) (fitted l by b) b _ x (factorised_in r (sky_of r)) refl
      (record { sweeps = sweeps-made _ _ _ _ _ _; settled = sweeps_settled _ _ _ _ _ _ }) done

  pub limited : SweepsInLimit x.sweeps x.settled
  limited = Sweeps.limited _ _ _ _ x tells

  pub one_free : length (run_of l).free ≡ 1 → (x.sweeps ≡ 1) × (x.settled ≡ true)
  one_free = Sweeps.one_free _ _ _ _ x tells
