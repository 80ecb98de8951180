use native.Mathlib.Omega.{arith}
use Rattle.order.proofs.Laws.{picking_start, picking_above, picking_not, picking_end}
use Rattle.order.proofs.best.Goals as goal
use Rattle.order.proofs.best.Goals.{then-greatest-s, else-greatest-s}

pub loop-i-init : goal.loop-i-init
loop-i-init c = picking_start c.requires.0

pub loop-i-preserved : goal.loop-i-preserved
loop-i-preserved c =
    elim c.if-greatest-s.branch [
      | then-greatest-s w ↦ rw (w.b-is, w.greatest-is) (picking_above c.loop-i.invariant (omega arith) w.if-greatest-s.true)
      | else-greatest-s w ↦ rw (w.b-is, w.greatest-is) (picking_not c.loop-i.invariant w.if-greatest-s.false)
    ]

pub returns : goal.returns
returns c = picking_end c.loop-i.invariant (omega arith) (omega arith)
