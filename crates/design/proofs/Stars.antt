-- What callers need of the stars at indices: how many rows they bring, which of the lent lists no row knows, and the rows on the sky by their places.
-- Assumes nothing.
use Prim.Native.Nat.{ℕ, ◌+◌, ◌*◌, ◌<◌}
use mathlib.Core.Path.{◌≡◌, refl}
use mathlib.Core.List.{List, []}
use lib.ListN.{length, get_or, length-map}
use lib.Ieee.{Float}
use Rattle.float.specs.Float.{◌⊗◌}
use Rattle.sequence.specs.Sequence.{at}
use Rattle.solver.specs.declared.Settings.{Settings}
use Rattle.terms.specs.declared.Term.{Term}
use Rattle.design.specs.Design.{sheet_at, star_at, stars_at, sights_at, cos_dec}
use Rattle.design.specs.Design.{pairs, column, sky_column, differences, sky_differences, sky_rows}
use Rattle.design.proofs.Rows as rows
pub use Rattle.design.proofs.Rows.{sky_rows-length}

module _ (dh dd : List Float) (pier : List ℕ) (sheets : List Float) (used : List ℕ) where
  pub stars_count : length (stars_at dh dd pier sheets used) ≡ length used
  stars_count = length-map used (star_at dh dd pier sheets)

  -- ---- a column on the sky

  pub sky_column_is : (c : Settings) (t : Term) → sky_rows (stars_at dh dd pier sheets used) (column c (stars_at dh dd pier sheets used) t)
      ≡ sky_column c (stars_at dh dd pier sheets used) t
  unfolding column pairs sky_column
  sky_column_is c t = rows.sky_rows_of _ _ (stars_at dh dd pier sheets used)

  -- ---- what no row knows

  pub column_sights : (c : Settings) (t : Term) → column c (stars_at dh dd pier sheets used) t ≡ column c (sights_at pier sheets used) t
  unfolding column pairs
  column_sights c t = rows.rows_same (star_at dh dd pier sheets) _ _ (star_at [] [] pier sheets) (λ i. refl) (λ i. refl) used

  pub sky_column_sights : (c : Settings) (t : Term) → sky_column c (stars_at dh dd pier sheets used) t ≡ sky_column c (sights_at pier sheets used) t
  unfolding sky_column
  sky_column_sights c t = rows.rows_same (star_at dh dd pier sheets) _ _ (star_at [] [] pier sheets) (λ i. refl) (λ i. refl) used

  pub differences-same : differences (stars_at dh dd pier sheets used) ≡ differences (stars_at dh dd [] [] used)
  unfolding differences
  differences-same = rows.rows_same (star_at dh dd pier sheets) _ _ (star_at dh dd [] []) (λ i. refl) (λ i. refl) used

  pub sky_differences-same : sky_differences (stars_at dh dd pier sheets used) ≡ sky_differences (stars_at dh dd [] sheets used)
  unfolding sky_differences
  sky_differences-same = rows.rows_same (star_at dh dd pier sheets) _ _ (star_at dh dd [] sheets) (λ i. refl) (λ i. refl) used

  pub sky_rows-same : (b : List Float) → sky_rows (stars_at dh dd pier sheets used) b ≡ sky_rows (sights_at [] sheets used) b
  sky_rows-same b = rows.sky_same (star_at dh dd pier sheets) (star_at [] [] [] sheets) (λ i. refl) used b

  -- ---- rows on the sky, by their places

  pub sky_hour : (b : List Float) (r : ℕ) → length b ≡ 2 * length used → r < length used
      → at (sky_rows (stars_at dh dd pier sheets used) b) (2 * r) ≡ at b (2 * r) ⊗ cos_dec (sheet_at sheets (get_or used r 0))
  sky_hour b r e h = rows.sky_hour (star_at dh dd pier sheets) used b r e h

  pub sky_dec : (b : List Float) (r : ℕ) → length b ≡ 2 * length used → r < length used
      → at (sky_rows (stars_at dh dd pier sheets used) b) (2 * r + 1) ≡ at b (2 * r + 1)
  sky_dec b r e h = rows.sky_dec (star_at dh dd pier sheets) used b r e h
