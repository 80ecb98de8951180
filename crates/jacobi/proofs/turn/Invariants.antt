-- `jacobi::turn` meets its contract. The invariant: the first k rows are turned. Assumes nothing.
use mathlib.Core.Path.{◌≡◌}
use Prim.Native.Nat.{◌≤◌, ◌-◌}
use lib.ListN.{length}
use Rattle.jacobi.specs.Jacobi.{turn}
use Rattle.jacobi.proofs.turn.Given as goal

abbrev pub invariant-loop-k : goal.invariant-loop-k
invariant-loop-k l = (l.k ≤ l.n) × (l.w ≡ turn l.c l.s l.k l.x l.y l.initial.w) × (length l.w ≡ length l.initial.w)

abbrev pub decreases-loop-k : goal.decreases-loop-k
decreases-loop-k l = l.n - l.k
