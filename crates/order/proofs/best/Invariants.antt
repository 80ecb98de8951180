-- `order::best` meets its contract. The invariant: b is the best place of those before i. Assumes nothing.
use Rattle.order.proofs.Laws.{Picking}
use Rattle.order.proofs.best.Given as goal

abbrev pub invariant-loop-i : goal.invariant-loop-i
invariant-loop-i l = Picking l.s l.left l.i l.b l.greatest
