-- `single_step::changed` meets its contract. The invariant: the first j numbers are sums. Assumes nothing.
use mathlib.Core.List.{zip_with}
use lib.Ieee.{add, binary64}
use Rattle.sequence.proofs.Partway.{Partway}
use Rattle.single_step.proofs.changed.Given as goal

abbrev pub invariant-loop-j : goal.invariant-loop-j
invariant-loop-j l = Partway l.initial.out (zip_with (add binary64) l.coefficients l.change) l.j l.out
