-- `validate::all_indices` meets its contract. The invariant: the first i places are filled. Assumes nothing.
use Rattle.sequence.proofs.Fills.{Filling}
use Rattle.validate.proofs.all_indices.Given as goal

abbrev pub invariant-loop-i : goal.invariant-loop-i
invariant-loop-i l = Filling (λ j. j) l.initial.x-items l.n l.i l.x-items
