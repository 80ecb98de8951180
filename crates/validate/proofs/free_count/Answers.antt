-- `validate::free_count` meets its contract. Assumes nothing.
use mathlib.Core.Path.{◌≡◌, ◌∙◌}
use lib.Dec.{eqb}
use Rattle.std.proofs.Common.{rules}
use Rattle.std.specs.List.{count_by}
use Rattle.std.proofs.iter.runs.Made.{chains}
use Rattle.validate.proofs.Laws.{free_count_is}
use Rattle.validate.proofs.free_count.Goals as goal

pub returns : goal.returns
returns c =
    let counted : c.count.result ≡ count_by (λ f. eqb f 0) c.args.fixed.now = search (rules, chains) in
    counted ∙ free_count_is c.args.fixed.now
