-- What is worked out from the lent lists, over stars that lack what no row reads, is what the run has; and what the loops count on. Assumes nothing.
use Prim.Native.Nat.{ℕ, ◌+◌, ◌*◌, ◌≤◌}
use native.Mathlib.Nat.{mul-le-mul_right}
use native.Mathlib.Omega.{arith}
use mathlib.Core.Path.{◌≡◌, refl, sym, ap, fun_ext}
use mathlib.Core.List.{List, []}
use lib.ListN.{length, get_or}
use lib.Ieee.{Float}
use Rattle.terms.specs.Names.{read_term}
use Rattle.terms.specs.Slots.{slot}
use Rattle.terms.proofs.First.{ok_each}
use Rattle.design.specs.Design.{RunInputs, run_inputs, run_from, stars_at, sights_at, term_at, rows_of, height_of, column_of, sky_of}
use Rattle.design.specs.Design.{column, sky_column, differences, sky_differences, sky_rows}
use Rattle.design.specs.Counted.{Seen, Named, Read, Counted}
use Rattle.design.proofs.Stars as stars

-- l with m terms: a run that is handed on has its number of terms from the set
abbrev pub with_terms : RunInputs → ℕ → RunInputs
with_terms l m = run_inputs m l.names l.free l.dh l.dd l.pier l.sheets l.used l.settings

module _ (l : RunInputs) where
  pub counted_as : (m : ℕ) → m ≡ l.m → Counted l → Counted (with_terms l m)
  counted_as m e c = rw e c

  -- ---- how many

  pub count_is : length l.used ≡ length (run_from l).stars
  count_is = sym (stars.stars_count l.dh l.dd l.pier l.sheets l.used)

  pub rows_are : 2 * length l.used ≡ rows_of (run_from l)
  rows_are = ap (λ (n : ℕ). 2 * n) count_is

  pub height_is : 2 * length l.used + 2 * l.m ≡ height_of (run_from l)
  height_is = ap (λ (n : ℕ). n + 2 * l.m) rows_are

  -- ---- columns and residuals

  pub columns_are : (λ j. column l.settings (sights_at l.pier l.sheets l.used) (term_at l.names j)) ≡ column_of (run_from l)
  columns_are = fun_ext (λ j. sym (stars.column_sights l.dh l.dd l.pier l.sheets l.used l.settings (term_at l.names j)))

  pub sky_columns_are : (λ j. sky_column l.settings (sights_at l.pier l.sheets l.used) (term_at l.names j)) ≡ sky_of (run_from l)
  sky_columns_are = fun_ext (λ j. sym (stars.sky_column_sights l.dh l.dd l.pier l.sheets l.used l.settings (term_at l.names j)))

  pub differences_are : differences (stars_at l.dh l.dd [] [] l.used) ≡ differences (run_from l).stars
  differences_are = sym (stars.differences-same l.dh l.dd l.pier l.sheets l.used)

  pub sky_differences_are : sky_differences (stars_at l.dh l.dd [] l.sheets l.used) ≡ sky_differences (run_from l).stars
  sky_differences_are = sym (stars.sky_differences-same l.dh l.dd l.pier l.sheets l.used)

  pub sky_rows_are : (b : List Float) → sky_rows (sights_at [] l.sheets l.used) b ≡ sky_rows (run_from l).stars b
  sky_rows_are b = sym (stars.sky_rows-same l.dh l.dd l.pier l.sheets l.used b)

  -- ---- what the loops count on

  module _ (c : Counted l) where
    pub seen : Seen l.pier l.sheets l.used
    seen =
        record {
          sheets_count = rw c.pier_count c.sheets_count;
          stars = rw c.pier_count c.stars;
          used_few = rw c.pier_count c.used_few;
          used_below = rw c.pier_count c.used_below;
        }

    pub named : Named l.names l.free
    named i h = omega (arith, c.free_below i h, c.names_count)

    pub read : Read l.names l.free
    read i h = rw (ok_each (λ j. read_term (slot l.names j)) l.m c.names_read (get_or l.free i 0) (c.free_below i h)).1 refl

    -- the free terms' columns take no more room than those of all terms
    pub free_room : (h : ℕ) → length l.free * h ≤ l.m * h
    free_room h = mul-le-mul_right h c.free_few
