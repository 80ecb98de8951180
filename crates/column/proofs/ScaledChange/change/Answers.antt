use native.Mathlib.Omega.{arith}
use Rattle.column.specs.Column.{scaled_column}
use Rattle.column.proofs.Laws.{mapping_start, mapping_next, mapping_end}
use Rattle.column.proofs.ScaledChange.change.Goals as goal

pub loop-a-init : goal.loop-a-init
loop-a-init c = mapping_start

pub loop-a-preserved : goal.loop-a-preserved
loop-a-preserved c = mapping_next c.loop-a.invariant (omega arith)

pub returns-after-loop-a : goal.returns-after-loop-a
unfolding scaled_column
returns-after-loop-a c = rw c.if-n.true (mapping_end c.loop-a.invariant (omega arith))

pub returns-else-n : goal.returns-else-n
unfolding scaled_column
returns-else-n c = rw c.if-n.false
