use mathlib.Core.Path.{◌≡◌}
use Rattle.std.proofs.Common.{rules}
use Rattle.std.specs.Prelude.{Err}
use Rattle.solver.specs.Call.{buffers, sizes_of}
use Rattle.validate.proofs.Passed.{ready}
use Rattle.iterated.proofs.Outcome.{refused, accepted}
use Rattle.iterated.proofs.fit_model_iterated.Goals as goal

pub fit-requires : goal.fit-requires
fit-requires c =
    let a = c.args in
    let b = buffers a.out.now a.change.now a.sigma.now a.diagnostics.now a.scratch.now in
    ready a.input.now a.options (sizes_of b) _ c.in_ok-questions.was c.questions.ensures

pub returns : goal.returns
returns c =
    let a = c.args in
    let b = buffers a.out.now a.change.now a.sigma.now a.diagnostics.now a.scratch.now in
    let p = accepted a.input.now a.sigma_by b a.options _ c.questions.ensures _ _ c.in_ok-questions.was c.fit.ensures in
    record { equal = p.0; demand = p.1 }

pub returns-in_err-questions : goal.returns-in_err-questions
returns-in_err-questions c =
    let a = c.args in
    let b = buffers a.out.now a.change.now a.sigma.now a.diagnostics.now a.scratch.now in
    let why = c.in_err-questions.field-0.0 in
    let given : c.from_residual.result ≡ Err why = search rules in
    let p = refused a.input.now a.sigma_by b a.options _ c.questions.ensures why c.in_err-questions.was in
    rw given (record { equal = p.0; demand = p.1 })
