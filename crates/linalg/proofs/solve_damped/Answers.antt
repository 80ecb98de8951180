-- `linalg::solve_damped` meets its contract. Assumes nothing.
use Prim.Native.Nat.{◌+◌, ◌*◌}
use Rattle.column.specs.Column.{diagonals}
use Rattle.linalg.specs.Linalg.{solved, solved_damped}
use Rattle.linalg.proofs.Laws.{then_solved}
use Rattle.linalg.proofs.solve_damped.Goals as goal

pub returns-then-lambda : goal.returns-then-lambda
unfolding solved_damped
returns-then-lambda c =
    let solution = c.solve_and_covariance.ensures.solution in
    let only = c.solve_and_covariance.ensures.only in record { solution = rw c.if-lambda.true solution; only = only }

pub returns : goal.returns
unfolding solved_damped
returns c =
    let a = c.args in
    let e =
    then_solved (λ x y. solved a.h (a.rows + a.m) a.m x y a.fit_tol) (diagonals a.h a.rows a.m c.sqrt.result)
    a.w.now c.diagonals.new.w _ a.c (a.m * a.h) a.b a.rows _ c.requires.3 c.requires.4 c.diagonals.auto.w c.diagonals.ensures
    (c.solve_and_covariance-2.ensures.solution, c.solve_and_covariance-2.ensures.only) in
    record { solution = rw (c.if-lambda.false, ← c.sqrt.ensures) e.0; only = e.1 }
