use native.Mathlib.Omega.{arith}
use lib.ListN.{length-set}
use Rattle.jacobi.proofs.Laws.{turn-zero, turn_step}
use Rattle.jacobi.proofs.turn.Goals as goal

pub loop-k-init : goal.loop-k-init
loop-k-init c = (omega arith, turn-zero _ _ _ _ _, omega arith)

pub loop-k-preserved : goal.loop-k-preserved
loop-k-preserved c = (omega arith, turn_step _ _ _ _ _ _ _ c.loop-k.invariant.1 (omega arith) (omega arith), simp length-set (omega arith))
