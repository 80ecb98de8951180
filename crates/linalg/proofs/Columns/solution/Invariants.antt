-- `linalg::Columns::solution` meets its contract. The invariant: the first j places are filled. Assumes nothing.
use Prim.Native.Nat.{◌+◌}
use lib.ListN.{length}
use Rattle.float.specs.Float.{◌⊗◌}
use Rattle.sequence.specs.Sequence.{at}
use Rattle.sequence.proofs.Fills.{Filling}
use Rattle.column.specs.Column.{scale_of}
use Rattle.linalg.specs.Linalg.{x_scaled}
use Rattle.linalg.proofs.Columns.solution.Given as goal

abbrev pub invariant-loop-j : goal.invariant-loop-j
invariant-loop-j l =
    Filling (λ j. x_scaled l.self.h l.self.w l.self.o l.z (l.rows + j) ⊗ scale_of (at l.norms j)) l.initial.x-items (length l.initial.x-items) l.j l.x-items
