-- `sequence::all_finite` meets its contract. Assumes nothing.
use Rattle.std.proofs.Common.{rules, ◌≡◌, ◌∙◌, true, ◌&&◌, fold}
use Rattle.std.proofs.lemmas.Iterator.{YieldsList-from_slice}
use Rattle.std.proofs.lemmas.Iterator.Consumers.{fold_from_yields_List}
use Rattle.float.specs.Float.{is_finite}
use Rattle.sequence.proofs.Folds.{fold-every}
use Rattle.sequence.proofs.all_finite.Goals as goal

pub returns : goal.returns
returns c =
    let folds : c.fold.result ≡ fold (λ all x. all && is_finite x) true c.args.s.now =
    fold_from_yields_List _ (λ all x. all && is_finite x) true _ c.fold.ensures.ran (YieldsList-from_slice c.args.s.now (search rules)) (λ all x b q k. search rules) in
    folds ∙ fold-every is_finite c.args.s.now
