-- `single_step::changes` meets its contract. The invariant: the changes of the first free terms are set. Assumes nothing.
use Prim.Native.Nat.{ℕ}
use mathlib.Core.Path.{◌≡◌}
use mathlib.Core.List.{List}
use lib.ListN.{length, get_or, set}
use lib.Ieee.{Float}
use Rattle.sequence.specs.Sequence.{at, each}
use Rattle.single_step.proofs.changes.Given as goal

-- the turn of free term i
abbrev pub turn : List ℕ → List Float → ℕ → List Float → List Float
turn free x i t = set t (get_or free i 0) (at x i)

abbrev pub invariant-loop-j : goal.invariant-loop-j
invariant-loop-j l = l.change ≡ each (length l.yielded) 0 (turn l.free l.x) l.initial.change
