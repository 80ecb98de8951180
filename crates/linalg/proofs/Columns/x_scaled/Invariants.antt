-- `linalg::Columns::x_scaled` meets its contract. The invariant: the sum of the first i products. Assumes nothing.
use mathlib.Core.Path.{◌≡◌}
use Rattle.float.specs.Float.{◌⊗◌}
use Rattle.sequence.specs.Sequence.{at, sum_to}
use Rattle.linalg.specs.Linalg.{entry}
use Rattle.linalg.proofs.Columns.x_scaled.Given as goal

abbrev pub invariant-loop-i : goal.invariant-loop-i
invariant-loop-i l = l.t ≡ sum_to l.i (λ i. entry l.self.h l.self.w l.self.o l.r i ⊗ at l.z i)
