use mathlib.Core.Path.{◌∙◌}
use mathlib.Core.List.{[]}
use lib.Ieee.{nan}
use native.Mathlib.Omega.{arith}
use Rattle.design.specs.Design.{star_at, sky_differences}
use Rattle.sequence.proofs.Partway.{start, pair, end}
use Rattle.design.proofs.Rows.{count, hour, dec}
use Rattle.design.proofs.build_sky_residuals.Goals as goal

pub loop-r-init : goal.loop-r-init
unfolding sky_differences
loop-r-init c =
    let a = c.args in
    start _ _ (count (star_at a.dh.now a.dd.now [] a.sheets.now) _ _ a.used.now ∙ omega arith)

pub loop-r-preserved : goal.loop-r-preserved
unfolding sky_differences
loop-r-preserved c =
    let a = c.args in
    let s = star_at a.dh.now a.dd.now [] a.sheets.now in
    let n = a.used.now in
    let i = c.from-i.ensures in
    pair _ _ c.loop-r.r c.loop-r.b _ _ nan (omega arith) c.loop-r.invariant
    (rw (c.cos_dec.ensures, i) (hour s _ _ n c.loop-r.r (omega arith))) (rw i (dec s _ _ n c.loop-r.r (omega arith)))

pub returns : goal.returns
returns c = end _ _ _ _ (omega arith) c.loop-r.invariant
