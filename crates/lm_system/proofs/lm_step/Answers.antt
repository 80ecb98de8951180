use native.Mathlib.Omega.{arith}
use mathlib.Core.Path.{◌≡◌}
use lib.ListN.{length}
use Rattle.outcome.proofs.Runs.{columns_built}
use Rattle.lm_system.proofs.Laws.{there, weighed_there, stepped}
use Rattle.lm_system.proofs.lm_step.Goals as goal

pub returns : goal.returns
returns c =
    let a = c.args in
    let counted = rw (← c.run-inside.view_is) at c.run.invariant in
    let q = rw (← c.run.view_is, ← c.run-inside.view_is) at c.requires in
    let ys = c.weighed_residuals.new.v in
    let left = there counted a.w.now ys in
    let long : length left ≡ length a.w.now = omega (arith, q.1.room) in
    let e = rw (← c.run-inside.view_is) at c.weighed_residuals.ensures in
    let built = rw (← c.run-inside.view_is, q.0) at c.build_design_matrix.ensures in
    let solution = rw q.0 at c.solve_damped.ensures.solution in
    let only = rw q.0 at c.solve_damped.ensures.only in
    let p =
    stepped counted a.set.now left c.build_design_matrix.new.w c.solve_damped.new.w a.k a.lambda c.solve_damped.result
    (weighed_there counted a.set.now a.w.now ys a.k (omega (arith, q.1.room)) q.2 c.weighed_residuals.auto.v (e.sky, e.b))
    (columns_built _ _ left q.1 long _ _ built) (solution, only) in
    rw (← c.run.view_is, ← c.run-inside.view_is) (record { solution = p.0; b = p.1.0; sky = p.1.1 })
