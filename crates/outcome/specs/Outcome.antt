-- What both fits are made of after their last solve: sigma, diagnostics, the answer, and what each buffer holds at the end. Definitions only.
use Rattle.std.specs.Prelude.{ℕ, ◌+◌, ◌*◌, ◌≡◌, ⊤, Result, Ok, Err, List, [], ◌∷◌, ◌++◌, length, drop, replicate, Float}
use Rattle.float.specs.Float.{#0}
use Rattle.sequence.specs.Sequence.{at, concat_to}
use Rattle.jacobi.specs.Jacobi.{Factorised}
use Rattle.linalg.specs.declared.SolveOutcome.{SolveOutcome}
use Rattle.linalg.specs.Linalg.{Solved, factorised_from, leverage_after}
use Rattle.refusal.specs.declared.Refusal.{Refusal}
use Rattle.solver.specs.declared.FitResult.{FitResult}
use Rattle.solver.specs.declared.IterReport.{IterReport}
use Rattle.solver.specs.declared.ObsDiagnostic.{ObsDiagnostic}
use Rattle.solver.specs.declared.Settings.{Settings}
use Rattle.solver.specs.declared.SigmaBy.{SigmaBy}
use Rattle.solver.specs.Call.{Buffers, buffers}
use Rattle.design.specs.Design.{Run, rows_of, height_of, scattered, free_columns}
use Rattle.stats.specs.declared.Sky.{Sky}
use Rattle.stats.specs.Stats.{sqrt, degrees, sky_from, divisor, variance, sigma_at, diagnostic}

-- ---- statistics of a run, from the last solve and the residuals res that it left

-- compute_sigma_from_covariance, by stars or by rows: 0 in a fixed term's place
unfoldable pub sigma_of : SigmaBy → Run → SolveOutcome → List Float → List Float
sigma_of by r o res =
    scattered r.free (sigma_at (variance res (divisor by (length r.stars) o.rank)) o.cov_diag) (replicate r.m #0)

-- compute_diagnostics: of star i, from the residuals res, the divisor of their squares and each row's leverage
abbrev pub diagnostic_from : ℕ → List Float → (ℕ → Float) → ℕ → ObsDiagnostic
diagnostic_from dof res leverage i =
    diagnostic (sqrt (variance res dof)) (at res (2 * i)) (at res (2 * i + 1)) (leverage (2 * i)) (leverage (2 * i + 1))

-- rows less rank, whatever sigma is by
unfoldable pub diagnostic_of : Run → Solved → List Float → ℕ → ObsDiagnostic
diagnostic_of r s res = diagnostic_from (degrees (rows_of r) s.outcome.rank) res (leverage_after (height_of r) (length r.free) s)

-- residual, leverage and studentized residual of n stars, one star after the other
abbrev pub diagnostic_numbers : ℕ → (ℕ → ObsDiagnostic) → List Float
diagnostic_numbers n d = concat_to n (λ i. (d i).residual_sky ∷ (d i).leverage ∷ (d i).studentized ∷ [])

-- what a fit answers, from the last solve and what is left on the sky under the set that is returned
abbrev pub answer_of : ℕ → Settings → SolveOutcome → Sky → IterReport → FitResult
answer_of free c o sky report =
    record {
      sky_rms = sky.rms;
      popn_sd = sky.popn_sd;
      rank_info = record { n_free = free; rank = o.rank; sigma_max = o.sigma_max; sigma_min = o.sigma_min; tol = c.fit_tol };
      iter_report = report;
      sweeps = o.sweeps;
      settled = o.settled;
    }

-- the factorisation of the free terms' columns a, without a damping row
abbrev pub factorised_in : Run → (ℕ → List Float) → Factorised
factorised_in r a = factorised_from (height_of r) (rows_of r) (length r.free) (free_columns r a)

-- the count and the flag that an answer tells are those of a factorisation
pub record Tells (f : Factorised) (a : FitResult) : Type 0 where
  pub sweeps : a.sweeps ≡ f.made
  pub settled : a.settled ≡ f.settled

-- ---- the answer and what each buffer holds at the end

pub record Outcome : Type 0 where
  pub answer : Result FitResult Refusal
  pub left : Buffers

abbrev pub outcome : Result FitResult Refusal → Buffers → Outcome
outcome r b = record { answer = r; left = b }

-- two that agree in all but what scratch holds
pub record SameFit (x y : Outcome) : Type 0 where
  pub answer : x.answer ≡ y.answer
  pub coefficients : x.left.coefficients ≡ y.left.coefficients
  pub change : x.left.change ≡ y.left.change
  pub sigma : x.left.sigma ≡ y.left.sigma
  pub diagnostics : x.left.diagnostics ≡ y.left.diagnostics

-- two that agree in all but what sigma holds
pub record SameButSigma (x y : Outcome) : Type 0 where
  pub answer : x.answer ≡ y.answer
  pub coefficients : x.left.coefficients ≡ y.left.coefficients
  pub change : x.left.change ≡ y.left.change
  pub diagnostics : x.left.diagnostics ≡ y.left.diagnostics
  pub scratch : x.left.scratch ≡ y.left.scratch

-- a call by the answer of its questions: the fit, or the refusal with every buffer as it was
abbrev pub decided : Result ⊤ Refusal → Outcome → Buffers → Outcome
decided (Ok u) x b = x
decided (Err why) x b = outcome (Err why) b

-- an accepted fit of a run that needs so much of scratch: what sigma is by, the set, its change, the last solve and the residuals res that it left, the
-- residuals under the set, and how it was come to. The run's n is the page's in every call
unfoldable pub finished : Run → SigmaBy → ℕ → Buffers → List Float → List Float → Solved → List Float → List Float → IterReport → Outcome
finished r by need b set change s res under report =
    let m = r.m in
    let n = length r.stars in
    let free = length r.free in
    outcome
    (Ok (answer_of free r.settings s.outcome (sky_from r.stars free under) report))
    (buffers
    (set ++ drop m b.coefficients)
    (change ++ drop m b.change)
    (sigma_of by r s.outcome res ++ drop m b.sigma)
    (diagnostic_numbers n (diagnostic_of r s res) ++ drop (3 * n) b.diagnostics)
    (replicate need #0 ++ drop need b.scratch))
