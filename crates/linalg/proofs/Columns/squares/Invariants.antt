-- `linalg::Columns::squares` meets its contract. The invariant: the sum over the first i columns without those whose inverse is 0. Assumes nothing.
use lib.ListN.{length}
use lib.Ieee.{eq}
use Rattle.float.specs.Float.{◌⊗◌, #0}
use Rattle.sequence.specs.Sequence.{at}
use Rattle.sequence.proofs.Sums.{Summing}
use Rattle.linalg.specs.Linalg.{entry}
use Rattle.linalg.proofs.Columns.squares.Given as goal

abbrev pub invariant-loop-i : goal.invariant-loop-i
invariant-loop-i g l =
    Summing (λ k. eq (at l.inv_s k) #0)
    (λ k. g.given (entry l.self.h l.self.w l.self.o l.r k) (at l.inv_s k) ⊗ g.given (entry l.self.h l.self.w l.self.o l.r k) (at l.inv_s k))
    (length l.self.o) l.i l.t
