-- `sqrt::whole_root` meets its contract. Assumes nothing.
use Rattle.sqrt.proofs.Newton.{Near}
use Rattle.sqrt.proofs.whole_root.Given as goal

abbrev pub invariant-loop-r : goal.invariant-loop-r
invariant-loop-r l = Near l.a l.r

abbrev pub decreases-loop-r : goal.decreases-loop-r
decreases-loop-r l = l.r
