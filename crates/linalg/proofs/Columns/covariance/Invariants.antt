-- `linalg::Columns::covariance` meets its contract. The invariant: the first j places are filled. Assumes nothing.
use Prim.Native.Nat.{◌+◌}
use lib.ListN.{length}
use Rattle.float.specs.Float.{◌⊗◌}
use Rattle.sequence.specs.Sequence.{at}
use Rattle.sequence.proofs.Fills.{Filling}
use Rattle.column.specs.Column.{scale_of}
use Rattle.linalg.specs.Linalg.{scaled_variance}
use Rattle.linalg.proofs.Columns.covariance.Given as goal

abbrev pub invariant-loop-j : goal.invariant-loop-j
invariant-loop-j l =
    Filling (λ j. scaled_variance l.self.h l.self.w l.self.o l.inv_s (l.rows + j) ⊗ scale_of (at l.norms j) ⊗ scale_of (at l.norms j))
    l.initial.d-items (length l.initial.d-items) l.j l.d-items
