use native.Mathlib.Omega.{arith}
use Rattle.iterated.proofs.Laws.{proposes}
use Rattle.iterated.proofs.propose.Goals as goal

pub returns : goal.returns
returns c =
    let a = c.args in
    let counted = rw (← c.run-inside.view_is) at c.run.invariant in
    let q = rw (← c.run.view_is, ← c.run-inside.view_is) at c.requires in
    let e = rw (← c.run.view_is, ← c.run-inside.view_is) at c.lm_step-solved.ensures in
    let k = rw (← c.run.view_is, ← c.run-inside.view_is) at c.chi2_at_state-chi2.ensures in
    rw (← c.run.view_is, ← c.run-inside.view_is)
    (proposes counted a.k a.lambda a.set.now _ _ c.trial_state_from-trial.result _ c.lm_step-solved.result
    (record { room = omega (arith, q.1.room); kept = c.chi2_at_state-chi2.auto.v }) (e.solution, (e.b, e.sky))
    c.trial_state_from-trial.ensures (k.chi2, k.left))
