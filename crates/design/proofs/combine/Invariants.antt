-- `design::combine` meets its contract. The invariant: the first k of the run are combined. Assumes nothing.
use lib.Ieee.{Float}
use Rattle.sequence.proofs.Combine.{Combining}
use Rattle.design.specs.Calls.{CombinesBy}
use Rattle.design.proofs.combine.Given as goal

abbrev pub invariant-loop-k : goal.invariant-loop-k
invariant-loop-k g l =
    (op : Float → Float → Float) → CombinesBy (λ a b r. goal.F-post g l.f a b r) op → Combining op l.initial.w l.x l.x l.y l.n l.k l.w
