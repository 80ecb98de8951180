-- `design::subtract_from_differences` meets its contract. The invariant: the rows of the first r stars are subtracted. Assumes nothing.
use Prim.Native.Nat.{◌*◌}
use mathlib.Core.List.{[], zip_with}
use lib.Ieee.{binary64, sub}
use Rattle.sequence.proofs.Partway.{Partway}
use Rattle.design.specs.Design.{stars_at, differences}
use Rattle.design.proofs.subtract_from_differences.Given as goal

abbrev pub invariant-loop-r : goal.invariant-loop-r
invariant-loop-r l =
    Partway l.initial.b (zip_with (sub binary64) (differences (stars_at l.dh l.dd [] [] l.used)) l.initial.b) (2 * l.r) l.b
