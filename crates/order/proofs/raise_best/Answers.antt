use Rattle.order.proofs.Laws.{turning_start, turning_next, turning_end}
use Rattle.order.proofs.raise_best.Goals as goal

pub loop-x-init : goal.loop-x-init
loop-x-init c = turning_start c.best-i.ensures

pub loop-x-preserved : goal.loop-x-preserved
loop-x-preserved c =
    let put = c.swap.ensures in
    rw (put.x_after, put.y_after) (turning_next c.best-i.ensures c.loop-x.invariant c.loop-x-test.true)

pub returns : goal.returns
returns c = turning_end c.best-i.ensures c.loop-x.invariant c.loop-x-test.false
