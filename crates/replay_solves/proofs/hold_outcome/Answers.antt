-- `hold_outcome` lends the columns. Assumes nothing.
use Prim.Native.Nat.{◌+◌, ◌-◌}
use lib.ListN.{length, take, drop, length-take, length-drop}
use Rattle.linalg.proofs.Laws.{in_order_placed}
use Rattle.replay_solves.proofs.Laws.{fits}
use native.Mathlib.Omega.{arith}
use Rattle.replay_solves.proofs.hold_outcome.Goals as goal

pub hold_leverage-requires : goal.hold_leverage-requires
hold_leverage-requires g c =
    let w = c.args.w.now in
    let d = c.args.head in
    let sized = c.requires.0 in
    let room = fits d.m d.rows sized.few_columns sized.few_rows in
    let p = in_order_placed (d.rows + d.m + d.m) d.m (take (length w - 256) (drop 256 w)) c.requires.1.0 c.args.r.now.order c.requires.1.1
    sized.few_columns (simp (length-take, length-drop) (omega (arith, room, sized.room))) in
    (omega arith, p.0)
