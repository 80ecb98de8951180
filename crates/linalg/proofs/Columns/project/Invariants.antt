-- `linalg::Columns::project` meets its contract. The invariant: the first i places of z are filled. Assumes nothing.
use lib.ListN.{length, get_or}
use Rattle.float.specs.Float.{◌⊗◌}
use Rattle.sequence.specs.Sequence.{at, dot}
use Rattle.sequence.proofs.Fills.{Filling}
use Rattle.jacobi.specs.Jacobi.{col}
use Rattle.column.specs.Column.{zeros, extended}
use Rattle.linalg.proofs.Columns.project.Given as goal

abbrev pub invariant-loop-i : goal.invariant-loop-i
invariant-loop-i l =
    Filling (λ k. at l.inv_s k ⊗ dot (col l.self.h l.rows l.self.w (get_or l.self.o k 0)) (extended l.rows l.b)) zeros (length l.self.o) l.i l.z
