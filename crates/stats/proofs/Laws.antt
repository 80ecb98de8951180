-- What callers need of the statistics: the sum of squares on the sky reads nothing of the stars but their sheets. Assumes nothing.
use Prim.Native.Nat.{ℕ}
use mathlib.Core.Path.{◌≡◌, refl}
use mathlib.Core.List.{List, []}
use lib.Ieee.{Float}
use Rattle.design.specs.Design.{stars_at, sights_at}
use Rattle.design.proofs.Stars.{stars_count, sky_rows-same}
use Rattle.stats.specs.Stats.{sum_sq_sky}

pub sum_sky_same : (dh dd : List Float) (pier : List ℕ) (sheets : List Float) (used : List ℕ) (r : List Float)
    → sum_sq_sky (stars_at dh dd pier sheets used) r ≡ sum_sq_sky (sights_at [] sheets used) r
unfolding sum_sq_sky
sum_sky_same dh dd pier sheets used r =
    rw (sky_rows-same dh dd pier sheets used r, stars_count dh dd pier sheets used, stars_count [] [] [] sheets used) refl
