use mathlib.Core.Path.{refl}
use lib.Ieee.{of_bits}
use Rattle.iterated.proofs.Laws.{loop_begins, loop_over, accepted_on, accepted_ends, rejected_on, rejected_ends}
use Rattle.iterated.proofs.run_lm_loop.Goals as goal
use Rattle.iterated.proofs.run_lm_loop.Goals.{in-Accepted+else-norm-options, in-Rejected+else-raised}

pub loop-i-init : goal.loop-i-init
unfolding of_bits
loop-i-init c =
    let q = rw (← c.run.view_is, ← c.run-inside.view_is) at c.requires in
    let e = rw (← c.run.view_is, ← c.run-inside.view_is) at c.chi2_at_state-chi2.ensures in
    rw (← c.run.view_is, ← c.run-inside.view_is)
    (loop_begins c.args.options c.args.set.now c.args.w.now _ _ _ q.1 c.chi2_at_state-chi2.auto.v q.0 refl e.chi2 e.left)

pub loop-i-preserved : goal.loop-i-preserved
loop-i-preserved c =
    let t = c.attempt in
    elim c.match-attempt.branch [
      | in-Accepted+else-norm-options w ↦
          rw w.lm-is
          (accepted_on c.loop-i.invariant c.loop-i-test.true _ _ t.new.w t.ensures.tried _ _ w.in-Accepted.is w.if-norm-options.false t.auto.set t.auto.w
          t.ensures.left)
      | in-Rejected+else-raised w ↦
          rw w.lm-is
          (rejected_on c.loop-i.invariant c.loop-i-test.true _ _ t.new.w t.ensures.tried _ w.in-Rejected.is w.if-raised.false t.auto.set t.auto.w
          t.ensures.left)
    ]

pub returns-after-loop-i-clause-reported : goal.returns-after-loop-i-clause-reported
returns-after-loop-i-clause-reported c = loop_over c.loop-i.invariant c.loop-i-test.false

pub returns-then-norm-options-clause-reported : goal.returns-then-norm-options-clause-reported
returns-then-norm-options-clause-reported c =
    accepted_ends c.loop-i.invariant c.loop-i-test.true _ _ c.attempt.new.w c.attempt.ensures.tried _ _ c.in-Accepted.is c.if-norm-options.true

pub returns-then-raised-clause-reported : goal.returns-then-raised-clause-reported
returns-then-raised-clause-reported c =
    rejected_ends c.loop-i.invariant c.loop-i-test.true _ _ c.attempt.new.w c.attempt.ensures.tried _ c.in-Rejected.is c.if-raised.true
