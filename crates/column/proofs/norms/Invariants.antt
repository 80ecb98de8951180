-- `column::norms` meets its contract. The invariant: the first j places are filled. Assumes nothing.
use lib.ListN.{length}
use Rattle.jacobi.specs.Jacobi.{col}
use Rattle.sequence.proofs.Fills.{Filling}
use Rattle.column.specs.Column.{norm}
use Rattle.column.proofs.norms.Given as goal

abbrev pub invariant-loop-j : goal.invariant-loop-j
invariant-loop-j l = Filling (λ i. norm (col l.h l.rows l.w i)) l.initial.norm_of_column-items (length l.initial.norm_of_column-items) l.j l.norm_of_column-items
