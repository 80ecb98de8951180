-- `validate::codes_below` meets its contract. Assumes nothing.
use mathlib.Core.Path.{◌≡◌, ◌∙◌}
use Rattle.std.proofs.Common.{rules, tests, ltb, ℕ}
use Rattle.std.specs.List.{list_all}
use Rattle.std.proofs.lemmas.Iterator.{YieldsList-from_slice}
use Rattle.std.proofs.lemmas.Iterator.Search.{all_from_yields_List}
use Rattle.validate.proofs.Laws.{every_is}
use Rattle.validate.proofs.codes_below.Goals as goal

pub returns : goal.returns
returns c =
    let p = λ (x : ℕ). ltb x c.args.k in
    let all : c.all.result ≡ list_all p c.args.s.now =
    all_from_yields_List p _ _ _ c.all.ensures.ran (YieldsList-from_slice c.args.s.now (search rules)) (λ x b q k. search (rules, tests)) in
    all ∙ every_is p c.args.s.now
