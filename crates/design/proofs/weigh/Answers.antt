-- `design::weigh` meets its contract. Assumes nothing.
use mathlib.Core.Path.{sym, ap, ◌∙◌}
use lib.Seq.{sets}
use Rattle.std.proofs.Common.{rules}
use Rattle.sequence.specs.Sequence.{part}
use Rattle.sequence.proofs.Parts.{sets_same}
use Rattle.design.specs.Design.{weighed, weighing}
use Rattle.design.proofs.Lists.{zip_turned}
use Rattle.design.proofs.weigh.Goals as goal

pub returns-then-k : goal.returns-then-k
unfolding weighing
returns-then-k c =
    let a = c.args in
    rw c.if-k.true
    (c.combine.ensures (λ x r. weighed a.k r x) (search rules)
    ∙ ap (sets a.w.now a.x) (zip_turned (weighed a.k) (part a.w.now a.y a.n) (part a.w.now a.x a.n)))

pub returns-else-k : goal.returns-else-k
unfolding weighing
returns-else-k c = rw c.if-k.false (sym (sets_same c.args.w.now c.args.x c.args.n c.requires.1))
