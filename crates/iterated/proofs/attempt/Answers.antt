use Rattle.iterated.proofs.Laws.{accepted, rejected}
use Rattle.iterated.proofs.attempt.Goals as goal

pub returns-then-next-chi2-clause-tried : goal.returns-then-next-chi2-clause-tried
returns-then-next-chi2-clause-tried c =
    let a = c.args in
    let e = rw (← c.run.view_is, ← c.run-inside.view_is) at c.propose-next.ensures in
    rw (← c.run.view_is, ← c.run-inside.view_is)
    (accepted e a.options a.chi2 c.huber_threshold-k.ensures _ _ c.if-next-chi2.true c.rotational_step_norm-norm.ensures c.copy_from_slice.ensures.after).0

pub returns-clause-tried : goal.returns-clause-tried
returns-clause-tried c =
    let a = c.args in
    let e = rw (← c.run.view_is, ← c.run-inside.view_is) at c.propose-next.ensures in
    rw (← c.run.view_is, ← c.run-inside.view_is) (rejected e a.options a.chi2 c.huber_threshold-k.ensures c.if-next-chi2.false)
