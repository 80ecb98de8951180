-- `validate::questions` meets its contract. Assumes nothing.
use native.Mathlib.Omega.{arith}
use mathlib.Core.Path.{sym, ◌∙◌}
use Rattle.validate.proofs.InOrder.{sized}
use Rattle.validate.proofs.questions.Goals as goal

pub ask_terms-requires : goal.ask_terms-requires
ask_terms-requires c =
    let e = sized c.args.input.now c.args.options c.args.room _ (sym c.ask_numbers.ensures ∙ c.in_ok-ask_numbers.was) in
    let f = rw (← c.input.view_is) at e in
    omega arith
