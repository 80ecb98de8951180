-- `harmonic::parse_components` meets its contract. Assumes nothing.
use Rattle.std.proofs.Common.{length}
use Rattle.harmonic.proofs.Reading.{Read}
use Rattle.harmonic.proofs.parse_components.Given as goal

abbrev pub invariant-loop-rest : goal.invariant-loop-rest
invariant-loop-rest l = Read l.chars l.components.list l.components.count l.rest

abbrev pub decreases-loop-rest : goal.decreases-loop-rest
decreases-loop-rest l = length l.rest
