-- `design::build_sky_residuals` meets its contract. The invariant: the rows of the first r stars are filled. Assumes nothing.
use Prim.Native.Nat.{◌*◌}
use mathlib.Core.List.{[]}
use Rattle.design.specs.Design.{stars_at, sky_differences}
use Rattle.sequence.proofs.Partway.{Partway}
use Rattle.design.proofs.build_sky_residuals.Given as goal

abbrev pub invariant-loop-r : goal.invariant-loop-r
invariant-loop-r l = Partway l.initial.b (sky_differences (stars_at l.dh l.dd [] l.sheets l.used)) (2 * l.r) l.b
