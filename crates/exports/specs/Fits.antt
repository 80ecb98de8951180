-- A fit's answer as a C struct, and its outcome as a C call has it. Definitions only.
use Rattle.std.specs.Prelude.{ℕ, ◌≡◌, false, cond, List, eqb, length, take, Float, Option, None, Some, Result, Ok, Err, ⊤}
use Rattle.float.specs.Float.{#0}
use Rattle.refusal.specs.Refusal.{number_of}
use Rattle.refusal.specs.declared.Refusal.{Refusal}
use Rattle.refusal.specs.declared.Refusal.TheVariants.{Code}
use Rattle.solver.specs.declared.FitResult.{FitResult}
use Rattle.solver.specs.declared.IterOptions.{IterOptions}
use Rattle.solver.specs.declared.SigmaBy.{SigmaBy}
use Rattle.solver.specs.declared.SigmaBy.TheVariants.{Stars, Rows}
use Rattle.solver.specs.declared.Sizes.{Sizes}
use Rattle.solver.specs.Call.{FitInputs, Buffers, sizes_of}
use Rattle.validate.specs.Questions.{answered, numbers_asked, no_options}
use Rattle.outcome.specs.Outcome.{Outcome, outcome}
use Rattle.single_step.specs.SingleStep.{fit_outcome}
use Rattle.iterated.specs.Iterated.{iterated_outcome}
use Rattle.iterated.specs.Demand3.{BestOfTried}
use Rattle.exports.specs.declared.fits.FitAnswer.{FitAnswer}

-- 0 and the result
abbrev pub given_answer : FitResult → FitAnswer
given_answer r = record {
  refusal = 0;
  sky_rms = r.sky_rms;
  popn_sd = r.popn_sd;
  n_free = r.rank_info.n_free;
  rank = r.rank_info.rank;
  sigma_max = r.rank_info.sigma_max;
  sigma_min = r.rank_info.sigma_min;
  tol = r.rank_info.tol;
  iterations = r.iter_report.iterations;
  converged = r.iter_report.converged;
  final_lambda = r.iter_report.final_lambda;
  final_step_norm = r.iter_report.final_step_norm;
  sweeps = r.sweeps;
  settled = r.settled;
}

-- the number of the question that refused the fit, none of which is 0, and zeros
abbrev pub refused_answer : ℕ → FitAnswer
refused_answer k = record {
  refusal = k;
  sky_rms = #0;
  popn_sd = #0;
  n_free = 0;
  rank = 0;
  sigma_max = #0;
  sigma_min = #0;
  tol = #0;
  iterations = 0;
  converged = false;
  final_lambda = #0;
  final_step_norm = #0;
  sweeps = 0;
  settled = false;
}

abbrev pub fit_answer : Result FitResult Refusal → FitAnswer
fit_answer (Ok r) = given_answer r
fit_answer (Err why) = refused_answer (number_of why)

-- the struct, and what each buffer holds at the end
pub record Exported : Type 0 where
  pub answer : FitAnswer
  pub left : Buffers

abbrev pub exported : FitAnswer → Buffers → Exported
exported a b = record { answer = a; left = b }

abbrev pub exported_of : Outcome → Exported
exported_of o = exported (fit_answer o.answer) o.left

-- ---- what sigma is by, as a code: 0 is by stars, 1 by rows

abbrev pub chosen : ℕ → Option SigmaBy
chosen code = cond (eqb code 0) (Some Stars) (cond (eqb code 1) (Some Rows) None)

-- any other is a no to question 5, that of the codes: an earlier no comes first
abbrev pub no_or_code : Result ⊤ Refusal → Refusal
no_or_code (Ok done) = Code
no_or_code (Err why) = why

abbrev pub unknown_no : FitInputs → IterOptions → Sizes → Refusal
unknown_no l o s = no_or_code (answered (numbers_asked l o s))

-- a call of a fit with that code
abbrev pub by_choice : Option SigmaBy → (SigmaBy → Outcome) → Refusal → Buffers → Outcome
by_choice (Some by) fit unknown b = fit by
by_choice None fit unknown b = outcome (Err unknown) b

abbrev pub by_code : ℕ → (SigmaBy → Outcome) → Refusal → Buffers → Outcome
by_code code fit unknown b = by_choice (chosen code) fit unknown b

abbrev pub single_step_by : ℕ → FitInputs → Buffers → Outcome
single_step_by code l b = by_code code (λ by. fit_outcome l by b) (unknown_no l no_options (sizes_of b)) b

abbrev pub iterated_by : ℕ → FitInputs → IterOptions → Buffers → Outcome
iterated_by code l o b = by_code code (λ by. iterated_outcome l by o b) (unknown_no l o (sizes_of b)) b

-- ---- demand 3

-- of an accepted call: what the answer's coefficients hold at the end, m of which are the set
abbrev pub BestWhereGiven : FitInputs → IterOptions → FitAnswer → List Float → Type 0
BestWhereGiven l o a out = a.refusal ≡ 0 → BestOfTried l o (take (length l.coefficients) out) a.iterations
