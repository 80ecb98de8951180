use Rattle.std.proofs.Common.{refl, sym, ◌∙◌, arith}
use Rattle.sequence.proofs.Fills.{each-zero, each_step}
use Rattle.jacobi.proofs.Laws.{pair-still, row_done, sweep_done, sweeps_on, sweeps-still, sweeps_none}
use Rattle.jacobi.proofs.factorise.Goals as goal
use Rattle.jacobi.proofs.factorise.Goals.{then-turns, else-turns}

pub sweeps-init : goal.sweeps-init
sweeps-init c = (refl, refl, refl)

pub loop-p-init : goal.loop-p-init
loop-p-init c = each-zero 0 _ _

pub loop-q-init : goal.loop-q-init
loop-q-init c = (c.pair_sums-a.ensures, each-zero _ _ _)

pub turn_pair-a-requires : goal.turn_pair-a-requires
turn_pair-a-requires c = (omega arith, omega arith, omega arith, omega arith, c.loop-q.invariant.0 (omega arith), sym c.turns.ensures ∙ c.if-turns.true)

pub loop-q-preserved : goal.loop-q-preserved
loop-q-preserved c =
    let u = c.loop-q in
    let own = u.invariant.0 (omega arith) in
    elim c.if-turns.branch [
      | then-turns d ↦
          let turned = d.turn_pair-a.ensures.turned in
          rw (d.w-is, d.turned-is, d.a-is) (d.turn_pair-a.ensures.next, turned _ ∙ each_step _ _ _ _ _ (omega arith) u.invariant.1)
      | else-turns d ↦
          rw (d.w-is, d.turned-is, d.a-is) (
            d.pair_sums-a-else-turns.ensures,
            pair-still _ _ _ _ _ _ _ own (sym c.turns.ensures ∙ d.if-turns.false) _ ∙ each_step _ _ _ _ _ (omega arith) u.invariant.1,
          )
    ]

pub loop-p-preserved : goal.loop-p-preserved
loop-p-preserved c = row_done _ _ _ _ _ _ _ (omega arith) c.loop-q.invariant.1 ∙ each_step 0 _ _ _ _ (omega arith) c.loop-p.invariant

pub sweeps-preserved : goal.sweeps-preserved
sweeps-preserved c =
    let w = c.sweeps in
    let done = sweep_done _ _ _ _ _ _ _ _ (omega arith) c.if-not-turned.false c.loop-p.invariant in
    (refl, w.invariant.1, sweeps_on _ _ _ _ _ _ _ (omega arith) done w.invariant.2)

pub returns-after-sweeps : goal.returns-after-sweeps
returns-after-sweeps c =
    let w = c.sweeps in
    rw (w.invariant.0, w.invariant.1) (sweeps_none _ _ _ _ _ _ (omega arith) w.invariant.2)

pub returns-then-not-turned : goal.returns-then-not-turned
returns-then-not-turned c =
    let done = sweep_done _ _ _ _ _ _ _ _ (omega arith) c.if-not-turned.true c.loop-p.invariant in
    sweeps-still _ _ _ _ _ _ _ (omega arith) done c.sweeps.invariant.2
