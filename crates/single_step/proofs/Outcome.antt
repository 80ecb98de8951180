-- A call by the answer of its questions, and calls that differ in scratch or in what sigma is by. Assumes nothing.
use Prim.Native.Nat.{ℕ, ◌≤◌}
use mathlib.Core.Path.{◌≡◌, refl, ap, ◌∙◌}
use mathlib.Core.List.{List}
use lib.ListN.{length}
use lib.Ieee.{Float}
use Rattle.std.specs.Prelude.{⊤, Result, Ok, Err}
use Rattle.refusal.specs.declared.Refusal.{Refusal}
use Rattle.refusal.specs.Refusal.{number_of}
use Rattle.solver.specs.declared.IterOptions.{IterOptions}
use Rattle.solver.specs.declared.SigmaBy.{SigmaBy}
use Rattle.solver.specs.Call.{FitInputs, Buffers, with_scratch, sizes_of}
use Rattle.design.specs.Design.{Run, run_of}
use Rattle.validate.specs.Questions.{scratch_needed, asked_of, no_options}
use Rattle.outcome.specs.Outcome.{Outcome, SameFit, SameButSigma, outcome, finished}
use Rattle.outcome.proofs.AnyScratch.{finished-same, decided-same}
use Rattle.outcome.proofs.AnyChoice.{finished_but_sigma, decided_but_sigma}
use Rattle.outcome.proofs.Call.{answered, refusal_has_number}
use Rattle.single_step.specs.SingleStep.{fitted_run, fitted, fit_outcome}

module _ (l : FitInputs) (by : SigmaBy) (b : Buffers) (o : IterOptions) (none : o ≡ no_options) (r : Result ⊤ Refusal) (q : r ≡ asked_of l o (sizes_of b)) where
  is : r ≡ asked_of l no_options (sizes_of b)
  is = q ∙ ap (λ x. asked_of l x (sizes_of b)) none

  pub refused : (why : Refusal) → r ≡ Err why → outcome (Err why) b ≡ fit_outcome l by b
  unfolding fit_outcome
  refused why e = answered l no_options b (fitted l by b) r (Err why) is e

  pub accepted : (x : Outcome) → r ≡ Ok tt → x ≡ fitted l by b → x ≡ fit_outcome l by b
  unfolding fit_outcome
  accepted x e w = w ∙ answered l no_options b (fitted l by b) r (Ok tt) is e

-- what a run needs of scratch, and the scratch that is lent, change no number of its fit
pub any_need : (r : Run) (by : SigmaBy) (need need' : ℕ) (s : List Float) (b : Buffers) (w : List Float)
    → SameFit (fitted_run r by need s b) (fitted_run r by need' s (with_scratch w b))
unfolding fitted_run
any_need r by need need' s b w = finished-same r by need need' b w _ _ _ _ _ _

-- two calls that differ in scratch alone, both long enough, agree in all but what it holds
pub any_scratch : (l : FitInputs) (by : SigmaBy) (b : Buffers) (w : List Float)
    → scratch_needed (length l.coefficients) (length l.dh) ≤ length b.scratch → scratch_needed (length l.coefficients) (length l.dh) ≤ length w
    → SameFit (fit_outcome l by b) (fit_outcome l by (with_scratch w b))
unfolding fit_outcome
any_scratch l by b w long long' = decided-same l no_options b w long long' (fitted l by b) (fitted l by (with_scratch w b)) (any_need _ by _ _ _ b w)

-- two calls that differ in what sigma is by alone agree in all but what it holds
pub any_choice : (l : FitInputs) (by by' : SigmaBy) (b : Buffers) → SameButSigma (fit_outcome l by b) (fit_outcome l by' b)
unfolding fit_outcome fitted_run
any_choice l by by' b =
    decided_but_sigma (asked_of l no_options (sizes_of b)) (fitted l by b) (fitted l by' b) b (finished_but_sigma (run_of l) by by' _ b _ _ _ _ _ _)

pub refusal_not_zero : (l : FitInputs) (by : SigmaBy) (b : Buffers) (why : Refusal) → (fit_outcome l by b).answer ≡ Err why → number_of why ≡ 0 → ⊥
unfolding fit_outcome fitted_run finished
refusal_not_zero l by b = refusal_has_number l no_options b (fitted l by b) _ refl
