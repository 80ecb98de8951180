-- The invariant of `iterated::changes`: the first j places are filled. Assumes nothing.
use mathlib.Core.List.{zip_with}
use lib.Ieee.{binary64, sub}
use Rattle.sequence.proofs.Partway as partway
use Rattle.iterated.proofs.changes.Given as goal

abbrev pub invariant-loop-j : goal.invariant-loop-j
invariant-loop-j l = partway.Partway l.initial.change (zip_with (sub binary64) l.set l.start) l.j l.change
