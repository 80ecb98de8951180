-- `design::SightInput::design_column` meets its contract. Assumes nothing.
use Prim.Native.Nat.{◌*◌}
use lib.ListN.{length}
use Rattle.std.proofs.Common.{rules}
use Rattle.design.proofs.Matrix.{deepened}
use Rattle.design.proofs.run.SightInput.design_column.Goals as goal

pub returns : goal.returns
returns c =
    let a = c.args in
    let n = length c.self.inside.used.now in
    let q = rw (← c.self.view_is) at c.requires in
    let e = rw (← c.self.view_is) at c.weighed_column.ensures in
    let f = c.fill in
    let p = deepened a.w.now _ f.new.self _ a.x (2 * n) a.h q.0 q.2 e.filled e.only f.auto.self (f.ensures.after (search rules)) in
    rw (← c.self.view_is) record { filled = p.0; only = p.1 }
