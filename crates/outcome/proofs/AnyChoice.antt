-- What sigma is by changes nothing of a fit but what sigma holds. Assumes nothing.
use Prim.Native.Nat.{ℕ}
use mathlib.Core.Path.{refl}
use mathlib.Core.List.{List}
use lib.Ieee.{Float}
use Rattle.linalg.specs.Linalg.{Solved}
use Rattle.std.specs.Prelude.{⊤, Result, Ok, Err}
use Rattle.refusal.specs.declared.Refusal.{Refusal}
use Rattle.solver.specs.declared.IterReport.{IterReport}
use Rattle.solver.specs.declared.SigmaBy.{SigmaBy}
use Rattle.solver.specs.Call.{Buffers}
use Rattle.design.specs.Design.{Run}
use Rattle.outcome.specs.Outcome.{Outcome, SameButSigma, decided, finished}

pub finished_but_sigma : (r : Run) (by by' : SigmaBy) (need : ℕ) (b : Buffers) (set change : List Float) (s : Solved) (res under : List Float)
    (report : IterReport)
    → SameButSigma (finished r by need b set change s res under report) (finished r by' need b set change s res under report)
unfolding finished
finished_but_sigma r by by' need b set change s res under report =
    record { answer = refl; coefficients = refl; change = refl; diagnostics = refl; scratch = refl }

-- a call by the answer of its questions, whose fits x and y agree
pub decided_but_sigma : (a : Result ⊤ Refusal) (x y : Outcome) (b : Buffers) → SameButSigma x y → SameButSigma (decided a x b) (decided a y b)
decided_but_sigma (Ok u) x y b same = same
decided_but_sigma (Err why) x y b same = record { answer = refl; coefficients = refl; change = refl; diagnostics = refl; scratch = refl }
