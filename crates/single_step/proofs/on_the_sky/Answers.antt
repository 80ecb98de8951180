use native.Mathlib.Omega.{arith}
use Rattle.single_step.proofs.Laws.{left_on_sky}
use Rattle.single_step.proofs.on_the_sky.Goals as goal

pub returns : goal.returns
returns c =
    let counted = rw (← c.run-inside.view_is) at c.run.invariant in
    let q = rw (← c.run.view_is, ← c.run-inside.view_is) at c.requires in
    let product = rw (← c.run-inside.view_is) at c.product.ensures in
    rw (← c.run.view_is, ← c.run-inside.view_is)
    (left_on_sky _ c.args.coefficients.now c.product.new.v c.subtract_from_differences.new.b _ _ counted (omega arith)
    product c.subtract_from_differences.auto.b c.subtract_from_differences.ensures c.sum_sq_sky-sum.ensures c.sky_of_sum.ensures)
