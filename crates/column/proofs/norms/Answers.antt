use native.Mathlib.Nat.{add-sub_cancel_left}
use native.Mathlib.Omega.{arith}
use Rattle.sequence.proofs.Fills.{filling_start, filling_next, filling_end}
use Rattle.column.specs.Column.{norms, zeros}
use Rattle.column.proofs.Laws.{front_filled}
use Rattle.column.proofs.norms.Goals as goal

pub loop-j-init : goal.loop-j-init
loop-j-init c = filling_start

pub loop-j-preserved : goal.loop-j-preserved
loop-j-preserved c = filling_next c.loop-j.invariant (omega arith) (omega arith) (simp add-sub_cancel_left at c.norm.ensures)

pub returns : goal.returns
unfolding norms
returns c = front_filled _ c.args.m zeros _ (omega arith) (filling_end c.loop-j.invariant (omega arith))
