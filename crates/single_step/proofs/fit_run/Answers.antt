use Prim.Native.Nat.{ℕ, ◌+◌, ◌*◌, ◌≤◌}
use native.Mathlib.Omega.{arith}
use mathlib.Core.Path.{◌≡◌, refl, ◌∙◌}
use mathlib.Core.List.{List}
use lib.ListN.{length, take}
use lib.Ieee.{Float}
use Rattle.solver.specs.Call.{buffers}
use Rattle.design.specs.Design.{RunInputs}
use Rattle.design.specs.Counted.{Counted}
use Rattle.outcome.specs.Scratch.{count_of, height_in}
use Rattle.outcome.proofs.Front.{renewed, Renewed, front_long}
use Rattle.outcome.proofs.Laws.{finish_ready}
use Rattle.outcome.proofs.Runs.{fits_front}
use Rattle.single_step.proofs.Run.{step_in_order, after_sky, Lent, lent_fits, step_kept, run-fitted}
use Rattle.single_step.proofs.fit_run.Goals as goal

-- ---- what each call wrote in scratch, w: first a from the step, then v from the sky, then r, the residuals

module _ {l : RunInputs} {need : ℕ} (w a : List Float) (c : Counted l) (room : 8 * count_of l + l.m * height_in l ≤ need) (fits : need ≤ length w)
    (kept : length a ≡ length (take need w)) where
  wrote_step : Renewed w a need
  wrote_step = record { room = fits; kept = kept }

  -- there is room for the sky, and for the residuals
  sky_room : 4 * count_of l ≤ length (renewed w a need)
  sky_room = omega (arith, front_long wrote_step)

  module _ (v : List Float) (kept_sky : length v ≡ length (take (4 * count_of l) (renewed w a need))) where
    wrote_sky : Renewed (renewed w a need) v (4 * count_of l)
    wrote_sky = record { room = sky_room; kept = kept_sky }

    left_room : 8 * count_of l ≤ length (after_sky l need w a v)
    left_room = omega (arith, front_long wrote_sky ∙ front_long wrote_step)

    wrote_all : {r : List Float} → length r ≡ length (take (8 * count_of l) (after_sky l need w a v)) → Lent l need w a v r
    wrote_all kept_left =
        record { counted = c; room = room; stepped = wrote_step; seen = wrote_sky; left = record { room = left_room; kept = kept_left } }

pub finish-requires : goal.finish-requires
finish-requires c =
    let counted = rw (← c.sights.view_is) at c.run.invariant in
    let q = rw (← c.run.view_is, ← c.sights.view_is) at c.requires in
    let t = wrote_all _ _ counted q.1 q.2 c.solve-solved.auto.w _ c.on_the_sky-sky.auto.v c.free_residuals.auto.v in
    let solution = rw (← c.run.view_is, ← c.sights.view_is) at c.solve-solved.ensures.solution in
    finish_ready _ _ c.args.sigma.now c.args.diagnostics.now c.solve-solved.result _ (fits_front _ _ c.args.need _ refl counted q.1 (lent_fits t))
    (step_kept t c.solve-solved.result _ solution) (step_in_order _ c.args.coefficients.now) q.5 q.6

pub returns : goal.returns
returns c =
    let a = c.args in
    let counted = rw (← c.sights.view_is) at c.run.invariant in
    let q = rw (← c.run.view_is, ← c.sights.view_is) at c.requires in
    let t = wrote_all _ _ counted q.1 q.2 c.solve-solved.auto.w _ c.on_the_sky-sky.auto.v c.free_residuals.auto.v in
    let solved = rw (← c.run.view_is, ← c.sights.view_is) at c.solve-solved.ensures in
    let sky = rw (← c.run.view_is, ← c.sights.view_is) at c.on_the_sky-sky.ensures in
    let left = rw (← c.sights.view_is) at c.free_residuals.ensures in
    let e = c.finish.ensures in
    rw (← c.run.view_is, ← c.sights.view_is)
    (run-fitted _ a.sigma_by a.coefficients.now a.need (buffers a.out.now a.change.now a.sigma.now a.diagnostics.now a.scratch.now)
    c.solve-solved.new.w c.on_the_sky-sky.new.v c.free_residuals.new.v c.finish.new.w c.changes.new.change c.changed.new.out _ _
    c.solve-solved.result c.on_the_sky-sky.result _ t solved.solution solved.fits
    (record { room = q.4; kept = c.changes.auto.change }) c.changes.ensures (record { room = q.3; kept = c.changed.auto.out }) c.changed.ensures
    sky left e.answer e.sigmas e.stars e.cleared)
