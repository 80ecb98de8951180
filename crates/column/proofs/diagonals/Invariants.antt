-- `column::diagonals` meets its contract. The invariant: the first j columns have their rows. Assumes nothing.
use Prim.Native.Nat.{◌+◌, ◌-◌, ◌*◌}
use lib.Seq.{sets}
use Rattle.sequence.proofs.Passes.{Passing}
use Rattle.column.specs.Column.{diagonal}
use Rattle.column.proofs.diagonals.Given as goal

abbrev pub invariant-loop-j : goal.invariant-loop-j
invariant-loop-j l = Passing (λ i w. sets w (i * l.h + l.from) (diagonal l.m i l.d)) l.initial.w l.m l.j l.w

abbrev pub decreases-loop-j : goal.decreases-loop-j
decreases-loop-j l = l.m - l.j
