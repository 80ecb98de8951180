-- `model::slots::has_name` meets its contract. Assumes nothing.
use Prim.Native.Nat.{ℕ}
use native.Mathlib.Omega.{arith}
use mathlib.Core.Path.{refl, ◌∙◌}
use mathlib.Core.Bool.{Bool}
use borrow.Author.Rules.{rules}
use Rattle.std.proofs.lemmas.Iterator.{YieldsList-from_range}
use Rattle.std.proofs.lemmas.Iterator.Search.{any_from_yields_List}
use Rattle.sequence.specs.Sequence.{some}
use Rattle.terms.specs.Names.{same}
use Rattle.model.specs.Slots.{term_at}
use Rattle.model.proofs.Laws.{some_from}
use Rattle.model.proofs.slots.has_name.Goals as goal

pub returns : goal.returns
unfolding some
returns c =
    let n = c.args.count in
    let test : ℕ → Bool = λ i. same (term_at c.args.names.now i).name c.args.stored.now in
    any_from_yields_List test _ _ _ c.any.ensures.ran (YieldsList-from_range 0 n n refl (omega arith)) (λ i b q k. search rules)
    ∙ some_from test 0 n n (omega arith)
