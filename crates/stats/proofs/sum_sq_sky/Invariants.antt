-- `stats::sum_sq_sky` meets its contract. The invariant: the sum is that of the stars so far. Assumes nothing.
use Prim.Native.Nat.{ℕ}
use mathlib.Core.Path.{◌≡◌}
use mathlib.Core.List.{List, []}
use lib.ListN.{length}
use lib.Ieee.{Float}
use Rattle.sequence.specs.Sequence.{sum_to}
use Rattle.design.specs.Design.{sights_at, sky_rows}
use Rattle.stats.specs.Stats.{sky_square}
use Rattle.stats.proofs.sum_sq_sky.Given as goal

-- the term of star i
abbrev pub term : List Float → List ℕ → List Float → ℕ → Float
term sheets used r = sky_square (sky_rows (sights_at [] sheets used) r)

abbrev pub invariant-loop-star : goal.invariant-loop-star
invariant-loop-star l = l.sum ≡ sum_to (length l.yielded) (term l.sheets l.used l.r)
