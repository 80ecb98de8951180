-- `column::dot` meets its contract. Assumes nothing.
use Rattle.std.specs.List.{zip}
use Rattle.std.proofs.Common.{rules, ◌≡◌, ◌∙◌, length, take, drop, fold}
use Rattle.std.proofs.lemmas.Iterator.{YieldsList-from_slice, YieldsList-from_zip}
use Rattle.std.proofs.lemmas.Iterator.Consumers.{fold_from_yields_List}
use Rattle.float.specs.Float.{#0}
use Rattle.column.proofs.Laws.{product, no_product, dot-extended}
use Rattle.column.proofs.dot.Goals as goal

pub returns : goal.returns
returns c =
    let x = c.args.x.now in
    let b = c.args.b.now in
    let t = c.fold-t.result in
    let n = length b in
    let with_b : t ≡ fold product #0 (zip (take n x) b) =
    fold_from_yields_List _ product #0 _ c.fold-t.ensures.ran
    (YieldsList-from_zip (YieldsList-from_slice (take n x) (search rules)) (YieldsList-from_slice b (search rules))) (λ a p r q k. search rules) in
    let rest : c.fold.result ≡ fold no_product t (drop n x) =
    fold_from_yields_List _ no_product t _ c.fold.ensures.ran (YieldsList-from_slice (drop n x) (search rules)) (λ a p r q k. search rules) in
    rest ∙ rw with_b (dot-extended x b c.requires)
