-- `design::scale_ha_rows` meets its contract. The invariant: the rows of the first r stars are filled. Assumes nothing.
use Prim.Native.Nat.{◌*◌}
use mathlib.Core.List.{[]}
use Rattle.design.specs.Design.{sights_at, sky_rows}
use Rattle.sequence.proofs.Partway.{Partway}
use Rattle.design.proofs.scale_ha_rows.Given as goal

abbrev pub invariant-loop-r : goal.invariant-loop-r
invariant-loop-r l = Partway l.initial.b (sky_rows (sights_at [] l.sheets l.used) l.initial.b) (2 * l.r) l.b
