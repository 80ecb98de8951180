-- Demand 3, of the iterated fit: the set that it returns is the best of all the sets that it tries. Definitions only.
use Rattle.std.specs.Prelude.{ℕ, ◌+◌, ◌≤◌, ◌<◌, ◌≡◌, false, Result, Ok, Err, length, take, Float}
use mathlib.Core.List.{List, Memᴰ}
use Rattle.sequence.specs.Sequence.{at}
use Rattle.best.specs.ChiSquare.{Frac, exact_sum, AllTame, AtMost}
use Rattle.best.specs.Trials.{tried}
use Rattle.refusal.specs.declared.Refusal.{Refusal}
use Rattle.solver.specs.declared.FitResult.{FitResult}
use Rattle.solver.specs.declared.IterOptions.{IterOptions}
use Rattle.solver.specs.Call.{FitInputs}
use Rattle.design.specs.Design.{Run, run_of, is_free}
use Rattle.lm_system.specs.System.{hour, dec}
use Rattle.iterated.specs.Iterated.{trials, begin}

-- the sets tried: the start as lent, what each trial proposes, kept or rejected, and what the undamped trial proposes
abbrev pub tried_sets : FitInputs → IterOptions → List (List Float)
tried_sets l o = tried (trials (run_of l) o) o.max_iter (begin (run_of l) o l.coefficients)

-- the exact chi-square of a set: the sum of the exact squares of its weighted residuals, as a fraction
abbrev pub exact_sum_at : Run → List Float → Frac
exact_sum_at r s = exact_sum (hour r s) (dec r s) (length r.stars)

-- each of them is zero or of a size from 2 ^ -400 to 2 ^ 400
abbrev pub TameAt : Run → List Float → Type 0
TameAt r s = AllTame (hour r s) (dec r s) (length r.stars)

-- the set s is returned, after so many iterations; `AtMost`: at most (1 + 2 ^ -41) times as much
pub record BestOfTried (l : FitInputs) (o : IterOptions) (s : List Float) (iterations : ℕ) : Type 0 where
  pub listed : Memᴰ s (tried_sets l o)
  pub best : (other : List Float) → Memᴰ other (tried_sets l o) → TameAt (run_of l) other → TameAt (run_of l) s
      → AtMost (exact_sum_at (run_of l) s) (exact_sum_at (run_of l) other)
  pub kept : (j : ℕ) → j < length l.coefficients → is_free l.fixed j ≡ false → at s j ≡ at l.coefficients j
  pub counted : iterations + 2 ≡ length (tried_sets l o)
  pub limited : iterations ≤ o.max_iter

-- of a call: its answer, and what the answer's coefficients hold at the end, m of which are the set
abbrev pub Demand3 : FitInputs → IterOptions → Result FitResult Refusal → List Float → Type 0
Demand3 l o (Ok r) out = BestOfTried l o (take (length l.coefficients) out) r.iter_report.iterations
Demand3 l o (Err why) out = Unit {0}
