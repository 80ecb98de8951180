-- The iterated fit, as solver/iterated.rs has it: a trial, the loop of trials, the undamped trial at its end, and the outcome of the call. A run r is
-- fitted, and s is a set. Definitions only.
use Rattle.std.specs.Prelude.{ℕ, ◌+◌, ◌≡◌, Bool, true, false, cond, length, take, Float}
use mathlib.Core.List.{List, zip_with}
use Rattle.std.specs.Float.{inf, binary64}
use Rattle.std.specs.Float.Ieee.{of_bits, sub, lt, le}
use Rattle.float.specs.Float.{◌⊗◌, ◌⊘◌, #0}
use Rattle.sequence.specs.Sequence.{at}
use Rattle.best.specs.Trials.{Trials, after}
use Rattle.linalg.specs.declared.SolveOutcome.{SolveOutcome}
use Rattle.linalg.specs.Linalg.{Solved}
use Rattle.solver.specs.declared.IterOptions.{IterOptions}
use Rattle.solver.specs.declared.IterReport.{IterReport}
use Rattle.solver.specs.declared.SigmaBy.{SigmaBy}
use Rattle.solver.specs.Call.{FitInputs, Buffers, sizes_of}
use Rattle.validate.specs.Questions.{scratch_needed, asked_of}
use Rattle.design.specs.Design.{Run, RunInputs, run_from, run_of, rows_of, product, extracted}
use Rattle.outcome.specs.Outcome.{Outcome, decided, finished}
use Rattle.outcome.specs.Scratch.{residuals_in, b_in, sky_in, solved_in}
use Rattle.lm_system.specs.System.{residuals_under, sky_residuals, chi2_at, huber_k_of, weighed_residuals, weighed_column, lm_step, moved, step_norm}
use Rattle.iterated.specs.declared.LmLoopResult.{LmLoopResult}
use Rattle.iterated.specs.declared.Trial.{Trial}
use Rattle.iterated.specs.declared.Trial.TheVariants.{Accepted, Rejected}

-- ---- one trial

-- the step from a set whose chi-square is known, at a damping; and the set that it proposes
abbrev pub step_from : Run → IterOptions → Float → Float → List Float → Solved
step_from r o chi2 lambda s = lm_step r (huber_k_of r o chi2) lambda s

abbrev pub proposal : Run → IterOptions → Float → Float → List Float → List Float
proposal r o chi2 lambda s = moved r.free (step_from r o chi2 lambda s).outcome.x s

-- its answer, and the set in hand after it
pub record Tried : Type 0 where
  pub answer : Trial
  pub set : List Float

abbrev pub tried_to : Trial → List Float → Tried
tried_to answer set = record { answer = answer; set = set }

-- kept where its chi-square is strictly below the current one
unfoldable pub trial_of : Run → IterOptions → Float → Float → List Float → Tried
trial_of r o chi2 lambda s =
    let x = (step_from r o chi2 lambda s).outcome.x in
    let t = moved r.free x s in
    cond (lt (chi2_at r t) chi2)
    (tried_to (Accepted (chi2_at r t) (step_norm r.term r.free (take (length r.free) x))) t)
    (tried_to (Rejected (lambda ⊗ o.lambda_up)) s)

-- ---- run_lm_loop

-- what the loop holds: the set in hand, and how the loop came to it
pub record Report : Type 0 where
  pub set : List Float
  pub how : LmLoopResult

abbrev pub report : List Float → ℕ → Bool → Float → Float → Float → Report
report set iterations converged lambda norm chi2 =
    record { set = set; how = record { iterations = iterations; converged = converged; lambda = lambda; last_step_norm = norm; prev_chi2 = chi2 } }

-- the damping above which the loop is left: 1e12
abbrev pub lambda_limit : Float
lambda_limit = of_bits binary64 0x426d_1a94_a200_0000

-- what an answer makes of a report, and whether the loop is left
abbrev pub answered : IterOptions → Report → Trial → List Float → Report
answered o p (Accepted chi2 norm) set =
    report set (p.how.iterations + 1) (cond (lt norm o.tol_rad) true p.how.converged) (p.how.lambda ⊘ o.lambda_down) norm chi2
answered o p (Rejected lambda) set = report set (p.how.iterations + 1) p.how.converged lambda p.how.last_step_norm p.how.prev_chi2

abbrev pub leaves : IterOptions → Trial → Bool
leaves o (Accepted chi2 norm) = lt norm o.tol_rad
leaves o (Rejected lambda) = lt lambda_limit lambda

abbrev pub trial_at : Run → IterOptions → Report → Tried
trial_at r o p = trial_of r o p.how.prev_chi2 p.how.lambda p.set

abbrev pub trials : Run → IterOptions → Trials Report (List Float)
trials r o = record {
  score = chi2_at r;
  set = λ p. p.set;
  propose = λ p. proposal r o p.how.prev_chi2 p.how.lambda p.set;
  turn = λ p. answered o p (trial_at r o p).answer (trial_at r o p).set;
  ends = λ p. leaves o (trial_at r o p).answer;
  last = λ p. proposal r o p.how.prev_chi2 #0 p.set;
}

-- from the start as lent
abbrev pub begin : Run → IterOptions → List Float → Report
begin r o start = report start 0 false o.initial_lambda (inf false) (chi2_at r start)

unfoldable pub lm_loop : Run → IterOptions → List Float → Report
lm_loop r o start = after (trials r o) o.max_iter (begin r o start)

-- ---- the undamped trial at the end, from the set in hand and its chi-square

abbrev pub last_step : Run → IterOptions → Float → List Float → Solved
last_step r o chi2 s = step_from r o chi2 #0 s

-- apply_final_step: kept where it is not above
unfoldable pub last_set : Run → IterOptions → Float → List Float → List Float
last_set r o chi2 s =
    let t = proposal r o chi2 #0 s in
    cond (le (chi2_at r t) chi2) t s

-- the chi-square of that set, where that of s is chi2
unfoldable pub last_chi2 : Run → IterOptions → Float → List Float → Float
last_chi2 r o chi2 s =
    let last = chi2_at r (proposal r o chi2 #0 s) in
    cond (le last chi2) last chi2

-- b_final - a_free_final * x, kept or not
unfoldable pub free_residuals : Run → IterOptions → Float → List Float → List Float
free_residuals r o chi2 s =
    let k = huber_k_of r o chi2 in
    zip_with (sub binary64) (weighed_residuals r k s)
    (product (rows_of r) (length r.free) (at (last_step r o chi2 s).outcome.x) (extracted r.free (weighed_column r k s)))

-- ---- fit_model_iterated

-- the set less the start
abbrev pub change : List Float → List Float → List Float
change s start = zip_with (sub binary64) s start

abbrev pub reported : LmLoopResult → IterReport
reported how =
    record { iterations = how.iterations; converged = how.converged; final_lambda = how.lambda; final_step_norm = how.last_step_norm }

-- of a run that needs so much of scratch
unfoldable pub fitted_run : Run → SigmaBy → ℕ → List Float → IterOptions → Buffers → Outcome
fitted_run r by need start o b =
    let p = lm_loop r o start in
    let chi2 = p.how.prev_chi2 in
    let s = last_set r o chi2 p.set in
    finished r by need b s (change s start) (last_step r o chi2 p.set) (free_residuals r o chi2 p.set) (residuals_under r s) (reported p.how)

abbrev pub fitted : FitInputs → SigmaBy → IterOptions → Buffers → Outcome
fitted l by o b = fitted_run (run_of l) by (scratch_needed (length l.coefficients) (length l.dh)) l.coefficients o b

unfoldable pub iterated_outcome : FitInputs → SigmaBy → IterOptions → Buffers → Outcome
iterated_outcome l by o b = decided (asked_of l o (sizes_of b)) (fitted l by o b) b

-- ---- what the functions leave

-- the residuals of the set in hand lie at 2·n
abbrev pub Left : RunInputs → List Float → List Float → Type 0
Left l s w = residuals_in l w ≡ residuals_under (run_from l) s

-- a step from a set s: what it proposes, at the front of an array, its chi-square, the solver's answer with its columns, b and the residuals on the sky
pub record Proposed (l : RunInputs) (k lambda : Float) (s w set : List Float) (chi2 : Float) (a : SolveOutcome) : Type 0 where
  pub solution : solved_in l w a ≡ lm_step (run_from l) k lambda s
  pub b : b_in l w ≡ weighed_residuals (run_from l) k s
  pub sky : sky_in l w ≡ sky_residuals (run_from l) s
  pub trial : take (length s) set ≡ moved l.free a.x s
  pub chi2_is : chi2 ≡ chi2_at (run_from l) (moved l.free a.x s)
  pub left : Left l (moved l.free a.x s) w

-- the last trial from a set s: the set kept and its chi-square, the solver's answer with its columns, and the free terms' residuals
pub record LastTried (l : RunInputs) (o : IterOptions) (chi2 : Float) (s w set : List Float) (least : Float) (a : SolveOutcome) : Type 0 where
  pub kept : set ≡ last_set (run_from l) o chi2 s
  pub least_is : least ≡ last_chi2 (run_from l) o chi2 s
  pub solution : solved_in l w a ≡ last_step (run_from l) o chi2 s
  pub left : residuals_in l w ≡ free_residuals (run_from l) o chi2 s
