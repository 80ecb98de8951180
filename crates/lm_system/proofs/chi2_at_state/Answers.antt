use Rattle.lm_system.proofs.Laws.{chi2_is}
use Rattle.lm_system.proofs.chi2_at_state.Goals as goal

pub returns-clause-chi2 : goal.returns-clause-chi2
returns-clause-chi2 c =
    let counted = rw (← c.run-inside.view_is) at c.run.invariant in
    let left = rw (← c.run.view_is, ← c.run-inside.view_is) at c.residuals_under_state.ensures in
    rw (← c.run.view_is, ← c.run-inside.view_is)
    (chi2_is counted c.args.set.now c.residuals_under_state.new.v _ left c.sum_sq_sky.ensures)
