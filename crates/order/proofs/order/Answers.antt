use mathlib.Core.Path.{refl, ap, ◌∙◌}
use native.Mathlib.Omega.{arith}
use lib.ListN.{length}
use Rattle.sequence.proofs.Fills.{filling_start, filling_next, filling_end, filled_all}
use Rattle.order.specs.Order.{ordered}
use Rattle.order.proofs.All.{all_le}
use Rattle.order.proofs.Laws.{ordering_start, ordering_lent, ordering_next, ordering_end}
use Rattle.order.proofs.order.Goals as goal

pub loop-j-init : goal.loop-j-init
loop-j-init c = filling_start

pub loop-j-preserved : goal.loop-j-preserved
loop-j-preserved c = filling_next c.loop-j.invariant (omega arith) (omega arith) refl

pub loop-k-init : goal.loop-k-init
loop-k-init c =
    let u = c.loop-j in
    let n = length c.args.o.now in
    rw u.auto.o (ordering_start c.args.s.now n u.o (filling_end u.invariant (omega arith) ∙ filled_all (λ i. i) n c.args.o.now (omega arith)))

pub raise_best-requires : goal.raise_best-requires
raise_best-requires c =
    let h = ordering_lent c.loop-k.invariant (omega arith) in
    (h.0, all_le _ 32 _ (omega arith) h.1)

pub loop-k-preserved : goal.loop-k-preserved
loop-k-preserved c = ordering_next c.loop-k.invariant (omega arith) c.raise_best.ensures

pub returns : goal.returns
returns c = ordering_end c.loop-k.invariant (omega arith) ∙ ap (λ n. ordered n c.args.s.now) c.loop-j.auto.o
