-- `solve` meets what its callees ask. Assumes nothing.
use mathlib.Core.Path.{subst, sym}
use Rattle.linalg.specs.Linalg.{Solved}
use Rattle.replay_solves.specs.Systems.{Ordered}
use Rattle.replay_solves.proofs.Laws.{fits, damped_ordered}
use native.Mathlib.Omega.{arith}
use Rattle.replay_solves.proofs.solve.Goals as goal

pub solve_damped-r-requires : goal.solve_damped-r-requires
solve_damped-r-requires g c = omega (arith, fits c.args.head.m c.args.head.rows c.requires.few_columns c.requires.few_rows, c.requires)

pub hold_outcome-held-requires : goal.hold_outcome-held-requires
hold_outcome-held-requires g c =
    let solution = c.solve_damped-r.ensures.solution in (
      record { few_rows = c.requires.few_rows; some-columns = c.requires.some-columns; few_columns = c.requires.few_columns; room = omega (arith, c.requires) },
      subst (λ (s : Solved). Ordered c.args.head.m s.outcome.order) (sym solution) (damped_ordered _ _ _ _ _ _ _),
    )
