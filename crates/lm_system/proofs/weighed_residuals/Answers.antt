use Prim.Native.Nat.{◌*◌}
use native.Mathlib.Omega.{arith}
use mathlib.Core.Path.{◌≡◌}
use mathlib.Core.List.{[]}
use lib.ListN.{length}
use Rattle.design.specs.Design.{sights_at, sky_rows}
use Rattle.lm_system.proofs.Laws.{weighed_both}
use Rattle.lm_system.proofs.weighed_residuals.Goals as goal

pub returns : goal.returns
returns c =
    let s = c.sights.inside in
    let n = length s.used.now in
    let long = rw (← c.sights.view_is) at c.requires in
    let r : 4 * n ≡ 2 * (2 * n) = omega arith in
    let p =
    weighed_both (sky_rows (sights_at [] s.sheets.now s.used.now)) c.args.k (2 * n) (2 * (2 * n)) c.args.v.now c.copy.new.w
    c.scale_ha_rows.new.b c.copy-2.new.w _ (omega arith) (omega arith) c.copy.ensures c.scale_ha_rows.auto.b c.scale_ha_rows.ensures c.copy-2.ensures
    c.weigh.ensures in
    rw (← c.sights.view_is) (record { sky = rw r p.0; b = rw r p.1 })
