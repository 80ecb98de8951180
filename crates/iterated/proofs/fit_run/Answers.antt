use Prim.Native.Nat.{ℕ, ◌*◌, ◌+◌, ◌≤◌}
use mathlib.Core.Path.{◌≡◌}
use mathlib.Core.List.{List}
use lib.ListN.{length, take}
use lib.Ieee.{Float}
use Rattle.design.specs.Design.{RunInputs}
use Rattle.design.specs.Counted.{Counted}
use Rattle.outcome.specs.Scratch.{count_of, height_in}
use Rattle.outcome.proofs.Front.{renewed, Renewed, front_fits}
use Rattle.outcome.proofs.Laws.{finish_ready}
use Rattle.iterated.proofs.Run.{Written, last_fits, searched, solved_last, last_in_order, run-fitted}
use Rattle.iterated.proofs.fit_run.Goals as goal

-- a front that was lent has come back
lent : {l ys : List Float} {k : ℕ} → k ≤ length l → length ys ≡ length (take k l) → Renewed l ys k
lent h e = record { room = h; kept = e }

-- and was lent again
again : {l ys zs : List Float} {k : ℕ} → Renewed l ys k → length zs ≡ length (take k (renewed l ys k)) → Renewed (renewed l ys k) zs k
again r e = record { room = front_fits r; kept = e }

-- what is written after the last trial
wrote_all : {l : RunInputs} {need : ℕ} {start out ys zs set scratch v w : List Float} → Counted l → 8 * count_of l + l.m * height_in l ≤ need
    → need ≤ length scratch → l.m ≤ length out → ys ≡ start → length ys ≡ length (take l.m out) → length zs ≡ length (take l.m (renewed out ys l.m))
    → length set ≡ length (take l.m (renewed (renewed out ys l.m) zs l.m)) → length v ≡ length (take need scratch)
    → length w ≡ length (take need (renewed scratch v need)) → Written l need start out ys zs set scratch v w
wrote_all c room fits out e k₁ k₂ k₃ k₄ k₅ =
    let begun = lent out k₁ in
    let worked = lent fits k₄ in
    record {
      counted = c;
      room = room;
      begun = begun;
      begins = e;
      looped = again begun k₂;
      kept = again (again begun k₂) k₃;
      worked = worked;
      ended = again worked k₅;
    }

pub finish-requires : goal.finish-requires
finish-requires c =
    let x = c.run_lm_loop-lm in
    let y = c.apply_final_step-last in
    let counted = rw (← c.run-inside.view_is) at c.run.invariant in
    let q = rw (← c.run.view_is, ← c.run-inside.view_is) at c.requires in
    let loop = rw (← c.run.view_is, ← c.run-inside.view_is) at x.ensures in
    let last = rw (← c.run.view_is, ← c.run-inside.view_is) at y.ensures in
    let t = wrote_all counted q.1 q.2 q.3 c.copy.ensures c.copy.auto.to x.auto.set y.auto.set x.auto.w y.auto.w in
    let came = searched t _ _ _ _ loop.reported last in
    finish_ready _ _ c.args.sigma.now c.args.diagnostics.now y.result.solved _ (last_fits t) (solved_last t came) (last_in_order _ c.args.options _ _) q.5 q.6

pub returns : goal.returns
returns c =
    let x = c.run_lm_loop-lm in
    let y = c.apply_final_step-last in
    let a = c.args in
    let counted = rw (← c.run-inside.view_is) at c.run.invariant in
    let q = rw (← c.run.view_is, ← c.run-inside.view_is) at c.requires in
    let loop = rw (← c.run.view_is, ← c.run-inside.view_is) at x.ensures in
    let last = rw (← c.run.view_is, ← c.run-inside.view_is) at y.ensures in
    let e = c.finish.ensures in
    let t = wrote_all counted q.1 q.2 q.3 c.copy.ensures c.copy.auto.to x.auto.set y.auto.set x.auto.w y.auto.w in
    let came = searched t _ _ _ _ loop.reported last in
    rw (← c.run.view_is, ← c.run-inside.view_is)
    (run-fitted t came a.sigma_by a.change.now a.sigma.now a.diagnostics.now c.changes.new.change _ _ c.finish.new.w c.sky_of_sum-sky.result _
    c.changes.ensures c.sky_of_sum-sky.ensures e.answer e.sigmas e.stars e.cleared)
