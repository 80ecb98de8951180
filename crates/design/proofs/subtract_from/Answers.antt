-- `design::subtract_from` meets its contract. Assumes nothing.
use mathlib.Core.Path.{ap, ◌∙◌}
use Rattle.std.proofs.Common.{rules}
use lib.Seq.{sets}
use lib.Ieee.{binary64, sub}
use Rattle.sequence.specs.Sequence.{part}
use Rattle.design.proofs.Lists.{zip_turned}
use Rattle.design.proofs.subtract_from.Goals as goal

pub returns : goal.returns
returns c =
    let a = c.args in
    c.combine.ensures (λ x y. sub binary64 y x) (search rules)
    ∙ ap (sets a.w.now a.x) (zip_turned (sub binary64) (part a.w.now a.y a.n) (part a.w.now a.x a.n))
