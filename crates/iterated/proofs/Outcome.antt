-- A call by the answer of its questions, and calls that differ in scratch or in what sigma is by. Assumes nothing.
use Prim.Native.Nat.{ℕ, ◌≤◌}
use mathlib.Core.Path.{◌≡◌, refl, ◌∙◌}
use mathlib.Core.List.{List}
use lib.ListN.{length}
use lib.Ieee.{Float}
use Rattle.std.specs.Prelude.{⊤, Result, Ok, Err}
use Rattle.refusal.specs.Refusal.{number_of}
use Rattle.refusal.specs.declared.Refusal.{Refusal}
use Rattle.solver.specs.declared.FitResult.{FitResult}
use Rattle.solver.specs.declared.IterOptions.{IterOptions}
use Rattle.solver.specs.declared.SigmaBy.{SigmaBy}
use Rattle.solver.specs.Call.{FitInputs, Buffers, with_scratch, sizes_of}
use Rattle.design.specs.Design.{Run, run_of}
use Rattle.validate.specs.Questions.{scratch_needed, asked_of}
use Rattle.validate.proofs.Passed.{ready}
use Rattle.outcome.specs.Outcome.{SameFit, SameButSigma, outcome, finished}
use Rattle.outcome.proofs.AnyScratch.{finished-same, decided-same}
use Rattle.outcome.proofs.AnyChoice.{finished_but_sigma, decided_but_sigma}
use Rattle.outcome.proofs.Call.{answered, refusal_has_number}
use Rattle.iterated.specs.Iterated.{fitted_run, fitted, iterated_outcome}
use Rattle.iterated.specs.Demand3.{Demand3}
use Rattle.iterated.proofs.Best.{fitted_demand}

module _ (l : FitInputs) (by : SigmaBy) (b : Buffers) (o : IterOptions) (r : Result ⊤ Refusal) (q : r ≡ asked_of l o (sizes_of b)) where
  pub refused : (why : Refusal) → r ≡ Err why → (outcome (Err why) b ≡ iterated_outcome l by o b) × Demand3 l o (Err why) b.coefficients
  unfolding iterated_outcome
  refused why e = (answered l o b (fitted l by o b) r (Err why) q e, tt)

  pub accepted : (x : FitResult) (left : Buffers) → r ≡ Ok tt → outcome (Ok x) left ≡ fitted l by o b
      → (outcome (Ok x) left ≡ iterated_outcome l by o b) × Demand3 l o (Ok x) left.coefficients
  unfolding iterated_outcome
  accepted x left e w = (w ∙ answered l o b (fitted l by o b) r (Ok tt) q e, fitted_demand l by o b left x (ready l o (sizes_of b) r e q).counted.stars w)

-- what a run needs of scratch, and the scratch that is lent, change no number of its fit
pub any_need : (r : Run) (by : SigmaBy) (need need' : ℕ) (start : List Float) (o : IterOptions) (b : Buffers) (w : List Float)
    → SameFit (fitted_run r by need start o b) (fitted_run r by need' start o (with_scratch w b))
unfolding fitted_run
any_need r by need need' start o b w = finished-same r by need need' b w _ _ _ _ _ _

-- two calls that differ in scratch alone, both long enough, agree in all but what it holds
pub any_scratch : (l : FitInputs) (by : SigmaBy) (o : IterOptions) (b : Buffers) (w : List Float)
    → scratch_needed (length l.coefficients) (length l.dh) ≤ length b.scratch → scratch_needed (length l.coefficients) (length l.dh) ≤ length w
    → SameFit (iterated_outcome l by o b) (iterated_outcome l by o (with_scratch w b))
unfolding iterated_outcome
any_scratch l by o b w long long' = decided-same l o b w long long' (fitted l by o b) (fitted l by o (with_scratch w b)) (any_need _ by _ _ _ o b w)

-- two calls that differ in what sigma is by alone agree in all but what it holds
pub any_choice : (l : FitInputs) (by by' : SigmaBy) (o : IterOptions) (b : Buffers) → SameButSigma (iterated_outcome l by o b) (iterated_outcome l by' o b)
unfolding iterated_outcome fitted_run
any_choice l by by' o b =
    decided_but_sigma (asked_of l o (sizes_of b)) (fitted l by o b) (fitted l by' o b) b (finished_but_sigma (run_of l) by by' _ b _ _ _ _ _ _)

pub refusal_not_zero : (l : FitInputs) (by : SigmaBy) (o : IterOptions) (b : Buffers) (why : Refusal) → (iterated_outcome l by o b).answer ≡ Err why
    → number_of why ≡ 0 → ⊥
unfolding iterated_outcome fitted_run finished
refusal_not_zero l by o b = refusal_has_number l o b (fitted l by o b) _ refl
