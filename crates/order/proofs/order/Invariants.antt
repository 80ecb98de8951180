-- `order::order` meets its contract. The columns taken so far, and the order of those left, are the order of all. Assumes nothing.
use lib.ListN.{length}
use Rattle.sequence.proofs.Fills.{Filling}
use Rattle.order.proofs.Laws.{Ordering}
use Rattle.order.proofs.order.Given as goal

abbrev pub invariant-loop-j : goal.invariant-loop-j
invariant-loop-j l = Filling (λ i. i) l.initial.o (length l.initial.o) l.j l.o

abbrev pub invariant-loop-k : goal.invariant-loop-k
invariant-loop-k l = Ordering l.s (length l.initial.o) l.k l.o
