-- `linalg::invert` meets its contract. The invariant: the first i values are inverted and counted. Assumes nothing.
use mathlib.Core.Path.{◌≡◌}
use Prim.Native.Nat.{◌≤◌}
use lib.ListN.{length}
use Rattle.sequence.proofs.Fills.{Filling}
use Rattle.column.specs.Column.{zeros}
use Rattle.linalg.specs.Linalg.{value, inverse, rank_to}
use Rattle.linalg.proofs.invert.Given as goal

abbrev pub invariant-loop-i : goal.invariant-loop-i
invariant-loop-i l = (l.rank ≤ l.i) × (l.rank ≡ rank_to l.i l.t l.s l.o) × Filling (λ k. inverse l.t (value l.s l.o k)) zeros (length l.o) l.i l.inv_s
