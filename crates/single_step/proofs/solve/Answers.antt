use Prim.Native.Nat.{◌+◌, ◌-◌, ◌*◌, ◌≤◌}
use native.Mathlib.Omega.{arith}
use mathlib.Core.Path.{◌≡◌}
use mathlib.Core.List.{List}
use lib.ListN.{length, take, drop}
use lib.Ieee.{Float}
use lib.Seq.{sets}
use Rattle.sequence.specs.Sequence.{part}
use Rattle.sequence.proofs.Only.{back}
use Rattle.design.specs.Design.{RunInputs}
use Rattle.outcome.specs.Scratch.{count_of, Fits}
use Rattle.outcome.proofs.Front.{renewed, Renewed}
use Rattle.outcome.proofs.Runs.{columns_built}
use Rattle.single_step.proofs.Laws.{back_fits, copied_long, fitted_to, stepped}
use Rattle.single_step.proofs.solve.Goals as goal

-- a part of w came back as ys
module _ {l : RunInputs} {w : List Float} (f : Fits l w) (ys : List Float)
    (kept : length ys ≡ length (take (2 * count_of l + 2 * count_of l - 2 * count_of l) (drop (2 * count_of l) w))) where
  -- the front is lent
  lies : 4 * count_of l ≤ length (back w ys (2 * count_of l) (2 * count_of l))
  lies = back_fits w ys (2 * count_of l) (4 * count_of l) (omega arith) (omega (arith, f.room)) kept

  -- and comes back as zs
  module _ (zs : List Float) (kept' : length zs ≡ length (take (4 * count_of l) (back w ys (2 * count_of l) (2 * count_of l)))) where
    back_again : Renewed (back w ys (2 * count_of l) (2 * count_of l)) zs (4 * count_of l)
    back_again = record { room = lies; kept = kept' }

    long : (w' : List Float) → w' ≡ sets (renewed (back w ys (2 * count_of l) (2 * count_of l)) zs (4 * count_of l)) (4 * count_of l)
        (part (renewed (back w ys (2 * count_of l) (2 * count_of l)) zs (4 * count_of l)) (2 * count_of l) (2 * count_of l)) → length w' ≡ length w
    long w' e = copied_long w ys (2 * count_of l) (4 * count_of l) (omega arith) (omega (arith, f.room)) kept back_again w' e

pub returns : goal.returns
returns c =
    let a = c.args in
    let counted = rw (← c.sights.view_is) at c.run.invariant in
    let q = rw (← c.run.view_is, ← c.sights.view_is) at c.requires in
    let f : Fits _ a.w.now = record { counted = counted; room = q.1 } in
    let k = c.build_sky_residuals.auto.b in
    let again = back_again f _ k _ c.subtract_all_contributions.auto.v in
    let copied = long f _ k _ c.subtract_all_contributions.auto.v _ c.copy.ensures in
    let subtracted = rw (← c.sights.view_is) at c.subtract_all_contributions.ensures in
    let fit = fitted_to _ a.coefficients.now a.w.now _ _ _ f k c.build_sky_residuals.ensures again subtracted c.copy.ensures in
    let matrix = rw (← c.sights.view_is) at c.build_design_matrix.ensures in
    let built = columns_built _ _ c.copy.new.w f copied _ _ matrix in
    let e = c.solve_and_covariance.ensures in
    let all = stepped _ a.coefficients.now _ _ _ _ f.counted fit built.0 built.1 e.solution e.only in
    rw (← c.run.view_is, ← c.sights.view_is) (record { solution = all.0; fits = all.1 })
