-- `model::slots::write_flags` meets its contract. The invariant: the first i flags are worked out. Assumes nothing.
use lib.ListN.{length}
use Rattle.sequence.proofs.Fills.{Filling}
use Rattle.model.specs.Slots.{pier_at}
use Rattle.model.proofs.slots.write_flags.Given as goal

abbrev pub invariant-loop-i : goal.invariant-loop-i
invariant-loop-i l = Filling (pier_at l.names) l.initial.flags (length l.initial.flags) l.i l.flags
