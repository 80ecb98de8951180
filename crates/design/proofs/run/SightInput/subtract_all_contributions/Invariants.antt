-- `design::SightInput::subtract_all_contributions` meets its contract. The invariant: the first j terms are done. Assumes nothing.
use Prim.Native.Nat.{◌*◌}
use lib.ListN.{length}
use lib.Ieee.{eq}
use Rattle.float.specs.Float.{#0}
use Rattle.sequence.specs.Sequence.{at}
use Rattle.design.specs.Design.{term_at, sky_column, less}
use Rattle.design.specs.Sights.{sights_in}
use Rattle.design.proofs.Terms.{Turned}
use Rattle.design.proofs.run.SightInput.subtract_all_contributions.Given as goal

abbrev pub invariant-loop-j : goal.invariant-loop-j
invariant-loop-j l =
    Turned (λ x. eq x #0) less (at l.coefficients) (sky_column l.self.settings (sights_in l.self)) (term_at l.names) (2 * length l.self.used)
    (length l.coefficients) l.initial.v l.v l.j
