use native.Mathlib.Omega.{arith}
use lib.ListN.{length}
use Rattle.sequence.proofs.Fills.{filling_start, filling_next, filling_end}
use Rattle.linalg.specs.Linalg.{inverses}
use Rattle.linalg.proofs.Laws.{inverse_above, inverse_not, rank_none, rank_above, rank_not, rank_end}
use Rattle.linalg.proofs.invert.Goals as goal
use Rattle.linalg.proofs.invert.Goals.{then-v-t, else-v-t}

pub loop-i-init : goal.loop-i-init
loop-i-init c = (omega arith, rank_none _ _ _, filling_start)

pub loop-i-preserved : goal.loop-i-preserved
loop-i-preserved c =
    let u = c.loop-i in
    elim c.if-v-t.branch [
      | then-v-t k ↦
          let rank = rank_above _ _ _ u.i u.rank u.invariant.1 k.if-v-t.true in
          rw (k.inv_s-is, k.rank-is) (omega arith, rank, filling_next u.invariant.2 (omega arith) (omega arith) (inverse_above _ _ k.if-v-t.true))
      | else-v-t k ↦
          let rank = rank_not _ _ _ u.i u.rank u.invariant.1 k.if-v-t.false in
          rw (k.inv_s-is, k.rank-is) (omega arith, rank, filling_next u.invariant.2 (omega arith) (omega arith) (inverse_not _ _ k.if-v-t.false))
    ]

pub returns : goal.returns
unfolding inverses
returns c =
    let u = c.loop-i in
    rw (filling_end u.invariant.2 (omega arith), rank_end _ _ _ u.i (length c.args.o.now) u.rank (omega arith) u.invariant.1)
