-- `stats::compute_sigma` meets its contract. The invariant: the sigmas of the first free terms are set. Assumes nothing.
use Prim.Native.Nat.{ℕ}
use mathlib.Core.Path.{◌≡◌}
use mathlib.Core.List.{List}
use lib.ListN.{length, get_or, set}
use lib.Ieee.{Float}
use Rattle.sequence.specs.Sequence.{each}
use Rattle.stats.specs.Stats.{sigma_at}
use Rattle.stats.proofs.compute_sigma.Given as goal

-- the turn of free term i
abbrev pub turn : List ℕ → Float → List Float → ℕ → List Float → List Float
turn free s2 cov i t = set t (get_or free i 0) (sigma_at s2 cov i)

abbrev pub invariant-loop-j : goal.invariant-loop-j
invariant-loop-j l =
    (length l.sigma ≡ length l.initial.sigma) × (l.sigma ≡ each (length l.yielded) 0 (turn l.free l.s2 l.cov_diag) l.initial.sigma)
