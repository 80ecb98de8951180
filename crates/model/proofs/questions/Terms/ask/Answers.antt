-- `model::questions::Terms::ask` meets its contract. Assumes nothing.
use native.Mathlib.Omega.{arith}
use mathlib.Core.Path.{◌≡◌, sym, ◌∙◌}
use borrow.Author.Rules.{rules}
use Rattle.std.specs.Prelude.{Err}
use Rattle.model.proofs.Laws.{names_next, no_before, sized_by}
use Rattle.model.proofs.questions.Terms.ask.Goals as goal

pub returns-in_err-ask_numbers : goal.returns-in_err-ask_numbers
returns-in_err-ask_numbers c =
    let e : c.from_residual.result ≡ Err c.in_err-ask_numbers.field-0.0 = search rules in
    e ∙ sym (no_before _ _ _ _ _ _ _ (sym c.ask_numbers.ensures ∙ c.in_err-ask_numbers.was))

pub names_read-requires : goal.names_read-requires
names_read-requires c =
    let p = sized_by _ _ _ _ _ _ (sym c.ask_numbers.ensures ∙ c.in_ok-ask_numbers.was) in
    omega (arith, p.1)

pub returns : goal.returns
returns c = c.names_read.ensures ∙ sym (names_next _ _ _ _ _ _ (sym c.ask_numbers.ensures ∙ c.in_ok-ask_numbers.was))
