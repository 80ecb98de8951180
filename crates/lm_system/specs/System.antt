-- The system that a trial solves, the set that its step leads to, and the length of the step, as solver/iterated.rs has them: of a run r and a set s, its
-- `state`. Definitions only.
use Rattle.std.specs.Prelude.{ℕ, ◌+◌, ◌*◌, Bool, ◌&&◌, ◌||◌, cond, length, get_or, set, Float}
use mathlib.Core.List.{List, zip_with}
use Rattle.std.specs.Float.{binary64}
use Rattle.std.specs.Float.Ieee.{of_bits, sub, lt, eq}
use Rattle.float.specs.Float.{◌⊕◌, ◌⊗◌, ◌⊘◌, #0, abs}
use Rattle.sequence.specs.Sequence.{at, each, dot}
use Rattle.best.specs.ChiSquare.{chi}
use Rattle.harmonic.specs.Table.{ascii}
use Rattle.terms.specs.Names.{same, padded}
use Rattle.terms.specs.declared.Term.{Term}
use Rattle.linalg.specs.Linalg.{Solved, solved_damped}
use Rattle.solver.specs.declared.IterOptions.{IterOptions}
use Rattle.design.specs.Design.{Run, rows_of, height_of, column_of, sky_of, differences, sky_rows, predicted, weighing, free_columns}
use Rattle.stats.specs.Stats.{sqrt, count, degrees}

-- ---- residuals_under_state and chi2_at_state

-- a zero coefficient is skipped
unfoldable pub residuals_under : Run → List Float → List Float
residuals_under r s = zip_with (sub binary64) (differences r.stars) (predicted (rows_of r) (length s) (at s) (column_of r))

-- the same on the sky: r_h is times cos dec
unfoldable pub sky_residuals : Run → List Float → List Float
sky_residuals r s = sky_rows r.stars (residuals_under r s)

-- r_h and r_d of star i
abbrev pub hour : Run → List Float → ℕ → Float
hour r s i = at (sky_residuals r s) (2 * i)

abbrev pub dec : Run → List Float → ℕ → Float
dec r s i = at (sky_residuals r s) (2 * i + 1)

-- r_h·r_h + r_d·r_d of each star as one sum, in order, unweighted
unfoldable pub chi2_at : Run → List Float → Float
chi2_at r s = chi (hour r s) (dec r s) (length r.stars)

-- ---- build_lm_system and solve_damped

-- k_sigma, for n stars, of a robust fit whose chi-square is above 0; else 0, with which nothing is weighed. The Rust's test n >= free holds of every run
-- that is fitted (`used_enough` of `Counted`)
unfoldable pub huber_from : ℕ → ℕ → IterOptions → Float → Float
huber_from n free o chi2 = cond (o.robust && lt #0 chi2) (o.huber_k ⊗ sqrt (chi2 ⊘ count (degrees (2 * n) free))) #0

abbrev pub huber_k_of : Run → IterOptions → Float → Float
huber_k_of r = huber_from (length r.stars) (length r.free)

-- b, and the column of term j, weighed by rows
abbrev pub weighed_residuals : Run → Float → List Float → List Float
weighed_residuals r k s = weighing k (sky_residuals r s) (sky_residuals r s)

abbrev pub weighed_column : Run → Float → List Float → ℕ → List Float
weighed_column r k s j = weighing k (sky_residuals r s) (sky_of r j)

unfoldable pub lm_step : Run → Float → Float → List Float → Solved
lm_step r k lambda s =
    solved_damped (height_of r) (rows_of r) (length r.free) (free_columns r (weighed_column r k s)) (weighed_residuals r k s) lambda r.settings.fit_tol

-- ---- trial_state_from

-- trial[idx] += delta[fi]: a fixed coefficient stays
unfoldable pub moved : List ℕ → List Float → List Float → List Float
moved free x s = each (length free) 0 (λ i t. let j = get_or free i 0 in set t j (at t j ⊕ at x i)) s

-- ---- rotational_step_norm, of the free terms' steps x

-- 206264.806_247 arcseconds in a radian
abbrev pub radian : Float
radian = of_bits binary64 0x4109_2dc6_7331_a08c

-- rot_names.contains(&name): IH, ID, NP or ME
abbrev pub rotational : List ℕ → Bool
rotational name =
    same name (padded (ascii "IH")) || same name (padded (ascii "ID")) || same name (padded (ascii "NP")) || same name (padded (ascii "ME"))

-- the larger of `most` and the step x, in radians, of a rotational term
unfoldable pub larger : Bool → Float → Float → Float
larger rotates x most =
    let step = abs x ⊘ radian in
    cond rotates (cond (lt most step) step most) most

unfoldable pub largest : (ℕ → Term) → List ℕ → List Float → Float
largest term free x = each (length free) 0 (λ i most. larger (rotational (term (get_or free i 0)).name) (at x i) most) #0

-- that of all free terms where no rotational one moves
unfoldable pub step_norm : (ℕ → Term) → List ℕ → List Float → Float
step_norm term free x =
    let most = largest term free x in
    cond (eq most #0) (sqrt (dot x x) ⊘ radian) most
