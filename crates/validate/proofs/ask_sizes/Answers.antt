-- `validate::ask_sizes` meets its contract. Assumes nothing.
use mathlib.Core.Path.{sym, ◌∙◌}
use Rattle.validate.proofs.Laws.{limits_facts, first_yes}
use Rattle.validate.proofs.ask_sizes.Goals as goal

pub counts_match-requires : goal.counts_match-requires
counts_match-requires c = rw (← c.input.view_is) (limits_facts _ _ (sym c.within_limits.ensures ∙ (first_yes _ _ _ _ (sym c.ask.ensures ∙ c.in_ok-ask.was)).0))

pub has_room-requires : goal.has_room-requires
has_room-requires c = limits_facts _ _ (sym c.within_limits.ensures ∙ (first_yes _ _ _ _ (sym c.ask.ensures ∙ c.in_ok-ask.was)).0)
