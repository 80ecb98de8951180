-- `design::SightInput::weighed_column` meets its contract. Assumes nothing.
use Prim.Native.Nat.{◌*◌}
use native.Mathlib.Omega.{arith}
use lib.ListN.{length}
use Rattle.design.proofs.Terms.{weighs}
use Rattle.design.proofs.run.SightInput.weighed_column.Goals as goal

pub returns : goal.returns
returns c =
    let a = c.args in
    let n = length c.self.inside.used.now in
    let q = rw (← c.self.view_is) at c.requires in
    let f = c.fill_sky_column in
    let filled = rw (← c.self.view_is) at f.ensures in
    let p = weighs a.k a.w.now f.new.col _ _ a.x (2 * n) (6 * n) q.0 q.1 (omega (arith, q.2)) f.auto.col filled c.weigh.ensures in
    rw (← c.self.view_is) record { filled = p.0; only = p.1 }
