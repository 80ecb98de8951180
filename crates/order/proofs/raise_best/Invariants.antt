-- `order::raise_best` meets its contract. The invariant: the best stands first, and those passed have moved up one place. Assumes nothing.
use Rattle.order.proofs.Laws.{Turning}
use Rattle.order.proofs.raise_best.Given as goal

abbrev pub invariant-loop-x : goal.invariant-loop-x
invariant-loop-x l = Turning l.fn.left l.i l.x-index l.carried l.x-items
