-- `terms::names::name_end` meets its contract. Assumes nothing.
use Rattle.std.proofs.Common.{rules, ◌≡◌, ◌∙◌, ap}
use Rattle.std.specs.Prelude.{position, Option, eqb, unwrap_or, length, ℕ}
use Rattle.std.proofs.lemmas.Iterator.{YieldsList-from_slice}
use Rattle.std.proofs.lemmas.Iterator.Search.{position_from_yields_List}
use Rattle.terms.proofs.Slots.{name_ends_at}
use Rattle.terms.proofs.names.name_end.Goals as goal

pub returns : goal.returns
returns c =
    let s = c.args.slot.now in
    let found : c.position.result ≡ position (λ b. eqb b 0) s =
    position_from_yields_List (λ b. eqb b 0) _ _ _ c.position.ensures.ran (YieldsList-from_slice s (search rules)) (λ x b q k. search rules) in
    c.unwrap_or.ensures ∙ ap (λ (o : Option ℕ). unwrap_or o (length s)) found ∙ name_ends_at s
