-- `pmf::list_input` meets its contract. Assumes nothing.
use Rattle.pmf.proofs.Listing.{asked_no, asked_pass, asked_ready}
use Rattle.pmf.proofs.list_input.Goals as goal

pub list_fit-requires : goal.list_fit-requires
list_fit-requires c =
    let a = c.args in
    (c.requires.0, c.requires.1, asked_ready a.mode a.input.now a.options _ c.questions.ensures c.in-Ok.is)

pub returns-in-Ok : goal.returns-in-Ok
returns-in-Ok c =
    let a = c.args in
    rw (asked_pass a.mode a.input.now a.options _ c.questions.ensures c.in-Ok.is) c.list_fit.ensures

pub returns-in-Err : goal.returns-in-Err
returns-in-Err c =
    let a = c.args in
    rw (asked_no a.mode a.input.now a.options _ c.questions.ensures _ c.in-Err.is, ← c.number.ensures) c.put_refusal.ensures
