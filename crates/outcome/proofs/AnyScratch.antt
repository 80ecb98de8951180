-- How long scratch is beyond what a fit needs, and what it holds before, changes nothing of a fit but what it holds at the end. Assumes nothing.
use Prim.Native.Nat.{ℕ, ◌≤◌}
use mathlib.Core.Path.{◌≡◌, refl}
use mathlib.Core.List.{List}
use borrow.Author.Tests.{le-leb}
use lib.ListN.{length}
use lib.Ieee.{Float}
use Rattle.std.specs.Prelude.{⊤, Result, Ok, Err}
use Rattle.refusal.specs.declared.Refusal.{Refusal}
use Rattle.linalg.specs.Linalg.{Solved}
use Rattle.solver.specs.declared.IterOptions.{IterOptions}
use Rattle.solver.specs.declared.IterReport.{IterReport}
use Rattle.solver.specs.declared.SigmaBy.{SigmaBy}
use Rattle.solver.specs.Call.{FitInputs, Buffers, with_scratch, sizes_of}
use Rattle.design.specs.Design.{Run}
use Rattle.validate.specs.Questions.{scratch_needed, enough_room, asked_of}
use Rattle.outcome.specs.Outcome.{Outcome, SameFit, decided, finished}

-- what is finished is the same whatever the run needs of scratch
pub finished-same : (r : Run) (by : SigmaBy) (need need' : ℕ) (b : Buffers) (w set change : List Float) (s : Solved) (res under : List Float)
    (report : IterReport)
    → SameFit (finished r by need b set change s res under report) (finished r by need' (with_scratch w b) set change s res under report)
unfolding finished
finished-same r by need need' b w set change s res under report =
    record { answer = refl; coefficients = refl; change = refl; sigma = refl; diagnostics = refl }

module _ (l : FitInputs) (o : IterOptions) (b : Buffers) (w : List Float)
    (long : scratch_needed (length l.coefficients) (length l.dh) ≤ length b.scratch)
    (long' : scratch_needed (length l.coefficients) (length l.dh) ≤ length w) where
  asked-same : asked_of l o (sizes_of b) ≡ asked_of l o (sizes_of (with_scratch w b))
  unfolding asked_of enough_room
  asked-same = rw (le-leb _ _ long, le-leb _ _ long')

  -- a call whose fits x and y agree
  pub decided-same : (x y : Outcome) → SameFit x y
      → SameFit (decided (asked_of l o (sizes_of b)) x b) (decided (asked_of l o (sizes_of (with_scratch w b))) y (with_scratch w b))
  decided-same x y same = rw (← asked-same) (by (asked_of l o (sizes_of b)))
    where
      by : (a : Result ⊤ Refusal) → SameFit (decided a x b) (decided a y (with_scratch w b))
      by (Ok u) = same
      by (Err why) = record { answer = refl; coefficients = refl; change = refl; sigma = refl; diagnostics = refl }
