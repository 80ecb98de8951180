use Rattle.std.proofs.Common.{rules, ◌≡◌, length, replicate, arith}
use Rattle.float.specs.Float.{#0}
use Rattle.column.specs.Column.{unit_column}
use Rattle.column.proofs.Laws.{mapping_start, mapping_next, mapping_end, map-zero}
use Rattle.column.proofs.UnitChange.change.Goals as goal

pub loop-a-init : goal.loop-a-init
loop-a-init c = mapping_start

pub loop-a-preserved : goal.loop-a-preserved
loop-a-preserved c = mapping_next c.loop-a.invariant (omega arith)

pub returns-after-loop-a : goal.returns-after-loop-a
unfolding unit_column
returns-after-loop-a c = rw c.if-n.true (mapping_end c.loop-a.invariant (omega arith))

pub returns-else-n : goal.returns-else-n
unfolding unit_column
returns-else-n c =
    let x = c.args.x.now in
    let filled : c.fill.new.self ≡ replicate (length x) #0 = search rules in
    rw (c.if-n.false, map-zero x) filled
