use native.Mathlib.Omega.{arith}
use Rattle.sequence.proofs.Sums.{dot_part_none, dot_part_step}
use Rattle.jacobi.proofs.sums.Goals as goal

pub loop-k-init : goal.loop-k-init
loop-k-init c =
    let a = c.args in
    let w = a.w.now in
    (omega arith, dot_part_none w a.x a.x, dot_part_none w a.y a.y, dot_part_none w a.x a.y)

pub loop-k-preserved : goal.loop-k-preserved
loop-k-preserved c =
    let u = c.loop-k in
    let a = c.args in
    let w = a.w.now in (
      omega arith,
      dot_part_step w a.x a.x u.k u.alpha u.invariant.1 (omega arith) (omega arith),
      dot_part_step w a.y a.y u.k u.beta u.invariant.2 (omega arith) (omega arith),
      dot_part_step w a.x a.y u.k u.gamma u.invariant.3 (omega arith) (omega arith),
    )
