-- `design::copy` meets its contract. Assumes nothing.
use mathlib.Core.Path.{sym, ap, ◌∙◌}
use native.Mathlib.Omega.{arith}
use Rattle.std.proofs.Common.{rules}
use lib.Seq.{sets}
use Rattle.sequence.specs.Sequence.{part}
use Rattle.sequence.proofs.Parts.{length_part}
use Rattle.design.proofs.Lists.{zip_second}
use Rattle.design.proofs.copy.Goals as goal

pub returns : goal.returns
returns c =
    let a = c.args in
    let long = length_part a.w.now a.x a.n (omega arith) ∙ sym (length_part a.w.now a.y a.n (omega arith)) in
    c.combine.ensures (λ x y. y) (search rules) ∙ ap (sets a.w.now a.y) (zip_second (part a.w.now a.y a.n) (part a.w.now a.x a.n) long)
