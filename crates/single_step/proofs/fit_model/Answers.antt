use mathlib.Core.Path.{◌≡◌}
use Rattle.std.proofs.Common.{rules}
use Rattle.std.specs.Prelude.{Err}
use Rattle.solver.specs.Call.{buffers, sizes_of}
use Rattle.validate.proofs.Passed.{ready}
use Rattle.single_step.proofs.Outcome.{refused, accepted}
use Rattle.single_step.proofs.fit_model.Goals as goal

pub fit-requires : goal.fit-requires
fit-requires c =
    let a = c.args in
    let b = buffers a.out.now a.change.now a.sigma.now a.diagnostics.now a.scratch.now in
    ready a.input.now _ (sizes_of b) _ c.in_ok-questions.was c.questions.ensures

pub returns : goal.returns
returns c =
    let a = c.args in
    let b = buffers a.out.now a.change.now a.sigma.now a.diagnostics.now a.scratch.now in
    accepted a.input.now a.sigma_by b _ c.no_options.ensures _ c.questions.ensures _ c.in_ok-questions.was c.fit.ensures

pub returns-in_err-questions : goal.returns-in_err-questions
returns-in_err-questions c =
    let a = c.args in
    let b = buffers a.out.now a.change.now a.sigma.now a.diagnostics.now a.scratch.now in
    let why = c.in_err-questions.field-0.0 in
    let given : c.from_residual.result ≡ Err why = search rules in
    rw given (refused a.input.now a.sigma_by b _ c.no_options.ensures _ c.questions.ensures _ c.in_err-questions.was)
