-- `sequence::sum_squares` meets its contract. Assumes nothing.
use Rattle.std.proofs.Common.{rules, ◌≡◌, ◌∙◌, fold}
use Rattle.std.proofs.lemmas.Iterator.{YieldsList-from_slice}
use Rattle.std.proofs.lemmas.Iterator.Consumers.{fold_from_yields_List}
use Rattle.float.specs.Float.{#0, ◌⊕◌, ◌⊗◌}
use Rattle.sequence.proofs.Folds.{fold-dot}
use Rattle.sequence.proofs.sum_squares.Goals as goal

pub returns : goal.returns
returns c =
    let folds : c.fold.result ≡ fold (λ t x. t ⊕ x ⊗ x) #0 c.args.r.now =
    fold_from_yields_List _ (λ t x. t ⊕ x ⊗ x) #0 _ c.fold.ensures.ran (YieldsList-from_slice c.args.r.now (search rules)) (λ t x b q k. search rules) in
    folds ∙ fold-dot c.args.r.now
