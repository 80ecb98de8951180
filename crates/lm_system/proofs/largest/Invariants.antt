-- The invariant of `lm_system::largest`: `most` is the largest of the first free terms. Assumes nothing.
use Rattle.std.proofs.Common.{◌≡◌, ℕ, List, length, get_or, Float}
use Rattle.float.specs.Float.{#0}
use Rattle.sequence.specs.Sequence.{at, each}
use Rattle.design.specs.Design.{term_at}
use Rattle.lm_system.specs.System.{rotational, larger}
use Rattle.lm_system.proofs.largest.Given as goal

-- the turn of free term i
abbrev pub turn : List ℕ → List ℕ → List Float → ℕ → Float → Float
turn names free x i most = larger (rotational (term_at names (get_or free i 0)).name) (at x i) most

abbrev pub invariant-loop-j : goal.invariant-loop-j
invariant-loop-j l = l.most ≡ each (length l.yielded) 0 (turn l.names l.free l.x) #0
