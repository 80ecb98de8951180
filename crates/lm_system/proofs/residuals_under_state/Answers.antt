use native.Mathlib.Omega.{arith}
use Rattle.lm_system.proofs.Laws.{under_set}
use Rattle.lm_system.proofs.residuals_under_state.Goals as goal

pub returns : goal.returns
returns c =
    let q = rw (← c.run.view_is, ← c.run-inside.view_is) at c.requires in
    let counted = rw (← c.run-inside.view_is) at c.run.invariant in
    let product = rw (← c.run-inside.view_is) at c.predict.ensures in
    rw (← c.run.view_is, ← c.run-inside.view_is)
    (under_set counted c.args.set.now c.predict.new.v c.subtract_from_differences.new.b (omega arith) product
    c.subtract_from_differences.auto.b c.subtract_from_differences.ensures)
