-- `jacobi::turn_on` meets its contract. The invariant: the first 2 * half rows are turned, and each sum is that of these rows of the
-- list that is left at the end. Assumes nothing.
use mathlib.Core.Path.{◌≡◌}
use Prim.Native.Nat.{◌-◌, ◌*◌, ◌/◌, ◌≤◌}
use lib.ListN.{length}
use Rattle.sequence.specs.Sequence.{part, dot}
use Rattle.jacobi.specs.Jacobi.{turn}
use Rattle.jacobi.proofs.turn_on.Given as goal

abbrev pub invariant-loop-half : goal.invariant-loop-half
invariant-loop-half l = let T = turn l.c l.s l.n l.x l.y l.initial.w in
    (l.half-end ≡ l.n / 2) × (l.half ≤ l.half-end) × (l.w ≡ turn l.c l.s (2 * l.half) l.x l.y l.initial.w) × (length l.w ≡ length l.initial.w)
    × (l.alpha ≡ dot (part T l.x (2 * l.half)) (part T l.x (2 * l.half))) × (l.beta ≡ dot (part T l.z (2 * l.half)) (part T l.z (2 * l.half)))
    × (l.gamma ≡ dot (part T l.x (2 * l.half)) (part T l.z (2 * l.half)))

abbrev pub decreases-loop-half : goal.decreases-loop-half
decreases-loop-half l = l.half-end - l.half
