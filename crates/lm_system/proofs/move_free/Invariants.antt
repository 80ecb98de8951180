-- The invariant of `lm_system::move_free`: the first free terms have moved. Assumes nothing.
use Rattle.std.proofs.Common.{◌≡◌, ℕ, List, length, get_or, set, Float}
use Rattle.float.specs.Float.{◌⊕◌}
use Rattle.sequence.specs.Sequence.{at, each}
use Rattle.lm_system.proofs.move_free.Given as goal

-- the turn of free term i
abbrev pub turn : List ℕ → List Float → ℕ → List Float → List Float
turn free x i t = set t (get_or free i 0) (at t (get_or free i 0) ⊕ at x i)

abbrev pub invariant-loop-j : goal.invariant-loop-j
invariant-loop-j l = l.set ≡ each (length l.yielded) 0 (turn l.free l.x) l.initial.set
