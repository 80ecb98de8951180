use native.Mathlib.Omega.{arith}
use native.Mathlib.Nat.{le_antisymm}
use mathlib.Core.Path.{◌≡◌}
use lib.ListN.{length}
use Rattle.design.proofs.Matrix.{filled_none, filled_turn}
use Rattle.design.proofs.run.SightInput.build_design_matrix.Goals as goal

pub loop-j-init : goal.loop-j-init
loop-j-init c = filled_none _

pub loop-j-preserved : goal.loop-j-preserved
loop-j-preserved c =
    let a = c.args in
    let l = a.self.now in
    let u = c.loop-j in
    let e = c.design_column.ensures in
    let kept = u.invariant.outside.long in
    filled_turn _ _ l.pier l.sheets l.used _ _ _ _ u.j u.w _ c.requires.2 (omega arith) (omega arith)
    (rw (c.term_at.ensures, c.from.ensures) at e.filled) e.only a.w.now u.invariant

pub returns : goal.returns
returns c =
    let u = c.loop-j in
    let all : u.j ≡ length c.args.free.now = le_antisymm (omega arith) (omega arith) in
    rw all at u.invariant
