-- `design::SightInput::add_columns` meets its contract. The invariant: the first j terms are done. Assumes nothing.
use Prim.Native.Nat.{◌*◌}
use mathlib.Core.Bool.{Bool}
use lib.ListN.{length}
use lib.Ieee.{Float}
use Rattle.sequence.specs.Sequence.{at}
use Rattle.design.specs.Calls.{Tests}
use Rattle.design.specs.Design.{term_at, column, plus}
use Rattle.design.specs.Sights.{sights_in}
use Rattle.design.proofs.Terms.{Turned}
use Rattle.design.proofs.run.SightInput.add_columns.Given as goal

abbrev pub invariant-loop-j : goal.invariant-loop-j
invariant-loop-j g l =
    (skip : Float → Bool) → Tests (λ x r. goal.F-post g l.skips x r) skip
    → Turned skip plus (at l.coefficients) (column l.self.settings (sights_in l.self)) (term_at l.names) (2 * length l.self.used) (length l.coefficients)
    l.initial.v l.v l.j
