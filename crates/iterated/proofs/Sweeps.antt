-- The sweeps that an accepted fit tells of are those of its last solve, which is undamped, whether its step is kept or not. Assumes nothing.
use mathlib.Core.Path.{◌≡◌, refl, ap, ◌∙◌}
use mathlib.Core.Bool.{true}
use mathlib.Core.List.{List}
use lib.ListN.{length}
use lib.Ieee.{Float}
use Rattle.jacobi.specs.Jacobi.{Factorised, SweepsInLimit}
use Rattle.linalg.specs.Linalg.{Solved}
use Rattle.linalg.proofs.Sweeps.{sweeps-made, sweeps_settled, undamped}
use Rattle.std.specs.Prelude.{Ok}
use Rattle.solver.specs.declared.FitResult.{FitResult}
use Rattle.solver.specs.declared.IterOptions.{IterOptions}
use Rattle.solver.specs.declared.SigmaBy.{SigmaBy}
use Rattle.solver.specs.Call.{FitInputs, Buffers, sizes_of}
use Rattle.design.specs.Design.{Run, run_of}
use Rattle.validate.specs.Questions.{asked_of}
use Rattle.outcome.specs.Outcome.{factorised_in, Tells, finished}
use Rattle.outcome.proofs.Sweeps as Sweeps
use Rattle.lm_system.specs.System.{huber_k_of, weighed_column, lm_step}
use Rattle.iterated.specs.Iterated.{lm_loop, last_step, fitted_run, fitted, iterated_outcome}

module _ (r : Run) (o : IterOptions) (chi2 : Float) (s : List Float) where
  abbrev told : Factorised
  told = factorised_in r (weighed_column r (huber_k_of r o chi2) s)

  made : (last_step r o chi2 s).outcome.sweeps ≡ told.made
  unfolding lm_step
  made = ap (λ (x : Solved). x.outcome.sweeps) (undamped _ _ _ _ _ _) ∙ sweeps-made _ _ _ _ _ _

  settled : (last_step r o chi2 s).outcome.settled ≡ told.settled
  unfolding lm_step
  settled = ap (λ (x : Solved). x.outcome.settled) (undamped _ _ _ _ _ _) ∙ sweeps_settled _ _ _ _ _ _

module _ (l : FitInputs) (by : SigmaBy) (o : IterOptions) (b : Buffers) (x : FitResult) (done : (iterated_outcome l by o b).answer ≡ Ok x) where
  -- of the columns weighed as the set has it at which the loop has ended
  pub tells : let r = run_of l in
      let p = lm_loop r o l.coefficients in
      Tells (factorised_in r (weighed_column r (huber_k_of r o p.how.prev_chi2) p.set)) x
  unfolding iterated_outcome fitted_run finished
  tells =
      let r = run_of l in
      let p = lm_loop r o l.coefficients in
      let chi2 = p.how.prev_chi2 in
      Sweeps.tells (asked_of l o (sizes_of b)) (fitted l by o b) b _ x (told r o chi2 p.set) refl
      (record { sweeps = made r o chi2 p.set; settled = settled r o chi2 p.set }) done

  pub limited : SweepsInLimit x.sweeps x.settled
  limited = Sweeps.limited _ _ _ _ x tells

  pub one_free : length (run_of l).free ≡ 1 → (x.sweeps ≡ 1) × (x.settled ≡ true)
  one_free = Sweeps.one_free _ _ _ _ x tells
