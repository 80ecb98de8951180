-- `terms::names::read_digits` meets its contract. The invariant: v is the number of the digits passed. Assumes nothing.
use Prim.Native.Nat.{◌<◌, ◌^◌}
use mathlib.Core.Path.{◌≡◌}
use lib.ListN.{drop}
use Rattle.terms.specs.Names.{digits_from}
use Rattle.terms.proofs.names.read_digits.Given as goal

abbrev pub invariant-loop-d : goal.invariant-loop-d
invariant-loop-d l = (l.v < 10 ^ l.d-index) × (digits_from 0 l.s ≡ digits_from l.v (drop l.d-index l.s))
