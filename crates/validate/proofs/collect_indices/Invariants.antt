-- `validate::collect_indices` meets its contract. The invariant: of the first i flags, the indices of those that are 0 are listed. Assumes nothing.
use Rattle.design.proofs.Indices.{Listed}
use Rattle.validate.proofs.collect_indices.Given as goal

abbrev pub invariant-loop-i : goal.invariant-loop-i
invariant-loop-i l = Listed l.flags l.initial.out l.i l.k l.out
