-- `model::slots::is_named` meets its contract. Assumes nothing.
use mathlib.Core.Path.{ap, ◌∙◌}
use Rattle.terms.specs.Names.{same}
use Rattle.terms.specs.declared.Term.{Term}
use Rattle.model.proofs.Laws.{same_is}
use Rattle.model.proofs.slots.is_named.Goals as goal

pub returns : goal.returns
returns c =
    let s = c.args.stored.now in
    c.eq.ensures ∙ same_is _ s ∙ ap (λ l. same l s) c.as_slice.ensures ∙ ap (λ (t : Term). same t.name s) c.term_at.ensures
