-- `terms::names_read` meets its contract. The invariant: the names passed are read. Assumes nothing.
use mathlib.Core.Path.{◌≡◌}
use lib.ListN.{length}
use Rattle.std.specs.Prelude.{Ok}
use Rattle.terms.specs.Slots.{names_read}
use Rattle.terms.proofs.names_read.Given as goal

abbrev pub invariant-loop-slot : goal.invariant-loop-slot
invariant-loop-slot l = names_read l.names (length l.yielded) ≡ Ok tt
