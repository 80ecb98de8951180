-- `RankInfo::condition_number` meets its contract. Assumes nothing.
use mathlib.Core.Path.{refl}
use lib.Ieee.{of_bits}
use Rattle.solver.proofs.RankInfo.condition_number.Goals as goal

pub returns-else-self : goal.returns-else-self
unfolding of_bits
returns-else-self c = rw c.if-self.false refl
