use mathlib.Core.Path.{sym, ap, ◌∙◌}
use Rattle.solver.specs.Call.{buffers}
use Rattle.outcome.proofs.Runs.{listed_is}
use Rattle.outcome.proofs.Call.{run_ready, run_fit}
use Rattle.single_step.specs.SingleStep.{fitted_run}
use Rattle.single_step.proofs.fit.Goals as goal

-- the run that is handed on is the call's
pub fit_run-requires : goal.fit_run-requires
fit_run-requires c =
    let a = c.args in
    let e = c.collect_indices-free.ensures in
    let p = rw (← c.input.view_is) at c.requires in
    let is = (rw (← c.input.view_is) at c.run_input-run.ensures) ∙ listed_is _ _ _ _ _ _ e.count e.listed c.all_indices.ensures in
    let b = buffers a.out.now a.change.now a.sigma.now a.diagnostics.now a.scratch.now in
    let q = run_ready _ _ _ is c.scratch_needed-need.ensures b p in
    (sym (ap (λ r. r.m) is), q.1, q.2, q.3, q.4, q.5, q.6)

pub returns : goal.returns
returns c =
    let a = c.args in
    let e = c.collect_indices-free.ensures in
    let is = (rw (← c.input.view_is) at c.run_input-run.ensures) ∙ listed_is _ _ _ _ _ _ e.count e.listed c.all_indices.ensures in
    let b = buffers a.out.now a.change.now a.sigma.now a.diagnostics.now a.scratch.now in
    rw (← c.input.view_is)
    (run_fit _ _ _ is c.scratch_needed-need.ensures (λ k m. fitted_run k a.sigma_by m c.input.inside.coefficients.now b) _ c.fit_run.ensures)
