-- The invariant of `iterated::copy`: the first j places are filled. Assumes nothing.
use Rattle.sequence.proofs.Partway as partway
use Rattle.iterated.proofs.copy.Given as goal

abbrev pub invariant-loop-j : goal.invariant-loop-j
invariant-loop-j l = partway.Partway l.initial.to l.from l.j l.to
