use native.Mathlib.Omega.{arith}
use Rattle.design.proofs.Indices.{start, listed, passed, done}
use Rattle.validate.proofs.collect_indices.Goals.{then-flag-eq0, else-flag-eq0}
use Rattle.validate.proofs.collect_indices.Goals as goal

pub loop-i-init : goal.loop-i-init
loop-i-init c = start _ _

pub loop-i-preserved : goal.loop-i-preserved
loop-i-preserved c =
    let u = c.loop-i in
    let a = c.args in
    let f = a.flags.now in
    let d = a.out.now in
    elim c.if-flag-eq0.branch [
      | then-flag-eq0 w ↦ rw (w.out-is, w.k-is) (listed f d u.i u.k u.out (omega arith) (omega arith) w.if-flag-eq0.true u.invariant)
      | else-flag-eq0 w ↦ rw (w.out-is, w.k-is) (passed f d u.i u.k u.out (omega arith) w.if-flag-eq0.false u.invariant)
    ]

pub returns : goal.returns
returns c =
    let u = c.loop-i in
    let a = c.args in
    let e = done a.flags.now a.out.now u.i u.k u.out (omega arith) u.invariant in
    record { count = e.0; listed = e.1 }
