-- `jacobi::sums` meets its contract. The invariant: each sum is that of the first k rows. Assumes nothing.
use mathlib.Core.Path.{◌≡◌}
use Prim.Native.Nat.{◌≤◌, ◌-◌}
use Rattle.sequence.specs.Sequence.{part, dot}
use Rattle.jacobi.proofs.sums.Given as goal

abbrev pub invariant-loop-k : goal.invariant-loop-k
invariant-loop-k l = (l.k ≤ l.n) × (l.alpha ≡ dot (part l.w l.x l.k) (part l.w l.x l.k)) × (l.beta ≡ dot (part l.w l.y l.k) (part l.w l.y l.k)) × (l.gamma ≡ dot (part l.w l.x l.k) (part l.w l.y l.k))

abbrev pub decreases-loop-k : goal.decreases-loop-k
decreases-loop-k l = l.n - l.k
