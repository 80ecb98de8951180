use Prim.Native.Nat.{◌*◌}
use mathlib.Core.Path.{sym}
use mathlib.Core.List.{[]}
use lib.ListN.{length-map}
use lib.Ieee.{nan}
use native.Mathlib.Omega.{arith}
use Rattle.design.specs.Design.{star_at}
use Rattle.sequence.proofs.Partway.{start, first, read, end}
use Rattle.design.proofs.Rows.{sky_rows-length, sky_hour, sky_dec}
use Rattle.design.proofs.scale_ha_rows.Goals as goal

pub loop-r-init : goal.loop-r-init
loop-r-init c = start _ _ (sky_rows-length _ c.args.b.now (simp length-map (omega arith)))

pub loop-r-preserved : goal.loop-r-preserved
loop-r-preserved c =
    let a = c.args in
    let s = star_at [] [] [] a.sheets.now in
    let n = a.used.now in
    let b = a.b.now in
    let r = c.loop-r.r in
    let k = read b _ (2 * r) (2 * r) c.loop-r.b nan (omega arith) (omega arith) c.loop-r.invariant in
    first b _ r c.loop-r.b _ nan (omega arith) c.loop-r.invariant
    (rw (k, c.cos_dec.ensures, c.from.ensures) (sym (sky_hour s n b r (omega arith) (omega arith))))
    (sym (sky_dec s n b r (omega arith) (omega arith)))

pub returns : goal.returns
returns c = end _ _ _ _ (omega arith) c.loop-r.invariant
