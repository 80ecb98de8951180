use native.Mathlib.Omega.{arith}
use mathlib.Core.Path.{◌∙◌}
use Rattle.iterated.proofs.Laws.{last_kept, last_not, tried_last}
use Rattle.iterated.proofs.apply_final_step.Goals as goal
use Rattle.iterated.proofs.apply_final_step.Goals.{then-last-chi2, else-last-chi2}

pub returns : goal.returns
returns c =
    let a = c.args in
    let counted = rw (← c.run-inside.view_is) at c.run.invariant in
    let q = rw (← c.run.view_is, ← c.run-inside.view_is) at c.requires in
    let last = rw (← c.run.view_is, ← c.run-inside.view_is) at c.propose-last.ensures in
    let under = rw (← c.run-inside.view_is) at c.free_residuals.ensures in
    let k = c.huber_threshold-k.ensures in
    rw (← c.run.view_is, ← c.run-inside.view_is)
    (tried_last counted last a.options a.chi2 k _ _ _
    (elim c.if-last-chi2.branch [
      | then-last-chi2 w ↦
          let p = last_kept counted last a.options a.chi2 k _ w.if-last-chi2.true w.copy_from_slice.ensures.after in
          (w.set-is ∙ p.0, w.least-is ∙ p.1)
      | else-last-chi2 w ↦ let p = last_not counted last a.options a.chi2 k w.if-last-chi2.false in (w.set-is ∙ p.0, w.least-is ∙ p.1)
    ])
    (record { room = omega (arith, q.1.room); kept = c.free_residuals.auto.v }) under)
