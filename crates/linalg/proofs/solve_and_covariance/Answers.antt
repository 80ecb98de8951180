-- `linalg::solve_and_covariance` meets its contract. Assumes nothing.
use Prim.Native.Nat.{◌*◌}
use Rattle.linalg.proofs.Laws.{in_order_placed, columns_lent, residual_lent, solves}
use Rattle.linalg.proofs.solve_and_covariance.Goals as goal

pub answer-requires : goal.answer-requires
answer-requires c =
    let d = c.decompose-d in
    let p = in_order_placed c.args.h c.args.m _ _ _ c.in_order-order.ensures c.requires.1
    (columns_lent c.args.w.now d.new.w c.args.c (c.args.m * c.args.h) c.requires.3 d.auto.w) in
    (p.0, c.requires.0, p.1, c.requires.2, residual_lent _ c.args.b c.args.n c.args.rows c.requires.4)

pub returns : goal.returns
returns c =
    let a = c.args in
    let e =
    solves a.w.now a.c a.b a.n a.h a.rows a.m a.fit_tol c.decompose-d.result c.decompose-d.new.w _ _
    c.requires.3 c.requires.5 c.decompose-d.auto.w c.decompose-d.ensures c.in_order-order.ensures c.answer.ensures in
    record { solution = e.0; only = e.1 }
