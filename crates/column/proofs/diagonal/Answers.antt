use mathlib.Core.Path.{◌∙◌}
use borrow.Author.Tests.{eq-eqb, ne_eqb}
use native.Mathlib.Omega.{arith}
use Rattle.sequence.proofs.Fills.{filled_all, filling_start, filling_next, filling_end}
use Rattle.column.specs.Column.{diagonal}
use Rattle.column.proofs.diagonal.Goals as goal
use Rattle.column.proofs.diagonal.Goals.{then-i-j, else-i-j}

pub loop-i-init : goal.loop-i-init
loop-i-init c = filling_start

pub loop-i-preserved : goal.loop-i-preserved
loop-i-preserved c =
    elim c.if-i-j.branch [
      | then-i-j w ↦ filling_next c.loop-i.invariant (omega arith) (omega arith) (rw (w.a-is, eq-eqb _ _ w.if-i-j.true))
      | else-i-j w ↦ filling_next c.loop-i.invariant (omega arith) (omega arith) (rw (w.a-is, ne_eqb _ _ w.if-i-j.false))
    ]

pub returns : goal.returns
unfolding diagonal
returns c = filling_end c.loop-i.invariant (omega arith) ∙ filled_all _ _ c.args.x.now (omega arith)
