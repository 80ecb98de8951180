-- What the answer of an accepted call tells of the sweeps of its last solve. Assumes nothing.
use Prim.Native.Nat.{ℕ}
use mathlib.Core.Path.{◌≡◌, refl}
use mathlib.Core.Bool.{true}
use mathlib.Core.List.{List}
use lib.Ieee.{Float}
use Rattle.jacobi.specs.Jacobi.{Factorised, factorised, SweepsInLimit}
use Rattle.jacobi.proofs.Counts.{in_limit, one_column}
use Rattle.std.specs.Prelude.{⊤, Result, Ok, Err}
use Rattle.refusal.specs.declared.Refusal.{Refusal}
use Rattle.solver.specs.declared.FitResult.{FitResult}
use Rattle.solver.specs.Call.{Buffers}
use Rattle.outcome.specs.Outcome.{Outcome, Tells, decided}

-- an answer tells the sweeps of f
abbrev TellsOf : Factorised → Result FitResult Refusal → Type 0
TellsOf f (Ok x) = Tells f x
TellsOf f (Err why) = Unit {0}

-- of a call by the answer of its questions, whose fit y tells them
pub tells : (a : Result ⊤ Refusal) (y : Outcome) (b : Buffers) (done x : FitResult) (f : Factorised) → y.answer ≡ Ok done → Tells f done
    → (decided a y b).answer ≡ Ok x → Tells f x
tells a y b done x f is told e = rw e at (by a)
  where
    by : (q : Result ⊤ Refusal) → TellsOf f (decided q y b).answer
    by (Ok u) = rw is told
    by (Err why) = tt

module _ (h rows m : ℕ) (w : List Float) (x : FitResult) (told : Tells (factorised h rows m w) x) where
  pub limited : SweepsInLimit x.sweeps x.settled
  limited = rw (told.sweeps, told.settled) (in_limit h rows m w)

  -- a single column makes one sweep, without a turn
  pub one_free : m ≡ 1 → (x.sweeps ≡ 1) × (x.settled ≡ true)
  one_free e = rw (told.sweeps, told.settled, e, one_column h rows w) (refl, refl)
