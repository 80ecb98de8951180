-- `model::point::breakdown_at` meets its contract. Assumes nothing.
use native.Mathlib.Omega.{arith}
use mathlib.Core.Path.{◌≡◌, sym, ◌∙◌}
use borrow.Author.Rules.{rules}
use Rattle.std.specs.Prelude.{Err}
use Rattle.model.specs.Correction.{breakdown_at}
use Rattle.model.proofs.Laws.{names_next, no_before, sized_by}
use Rattle.model.proofs.point.breakdown_at.Goals as goal

pub broken_down-requires : goal.broken_down-requires
broken_down-requires c =
    let p = sized_by _ _ _ _ _ _ (sym c.ask_numbers.ensures ∙ c.in_ok-ask_numbers.was) in
    (omega (arith, p.1), p.0)

pub returns-in_err-ask_numbers : goal.returns-in_err-ask_numbers
unfolding breakdown_at
returns-in_err-ask_numbers c =
    let e : c.from_residual.result ≡ Err c.in_err-ask_numbers.field-0.0 = search rules in
    let asked = rw c.finite.ensures at c.ask_numbers.ensures in
    rw (no_before _ _ _ _ _ _ _ (sym asked ∙ c.in_err-ask_numbers.was)) e

pub returns : goal.returns
unfolding breakdown_at
returns c =
    let asked = rw c.finite.ensures at c.ask_numbers.ensures in
    rw (names_next _ _ _ _ _ _ (sym asked ∙ c.in_ok-ask_numbers.was)) c.broken_down.ensures
