-- A run: its stars, its terms and what a fit makes of them, the design's columns and the residuals, as docs/SCOPE.md 7 and 8 and solver/design.rs have
-- them. A vector has two numbers a star, hour angle and declination. Definitions only.
use Rattle.std.specs.Prelude.{ℕ, ◌*◌, ◌+◌, ◌-◌, Bool, cond, eqb, length, get_or, set, replicate, Float}
use mathlib.Core.List.{List, [], ◌∷◌, ◌++◌, map, zip_with}
use Rattle.std.specs.Float.{binary64}
use Rattle.std.specs.Float.Ieee.{lt, eq}
use Rattle.limits.specs.Limits.{sheet_numbers}
use Rattle.float.specs.Float.{◌⊕◌, ◌⊖◌, ◌⊗◌, ◌⊘◌, #0, abs}
use Rattle.sqrt.specs.Sqrt.{sqrt}
use Rattle.sequence.specs.Sequence.{part, at, table, each}
use Rattle.observation.specs.Observation.{sign_of, side_of}
use Rattle.observation.specs.Sheet.{place_dec, point_of}
use Rattle.observation.specs.declared.Pair.{Pair}
use Rattle.observation.specs.declared.Point.{Point}
use Rattle.terms.specs.Names.{read_term, term_or_blank}
use Rattle.terms.specs.Slots.{slot}
use Rattle.terms.specs.Jacobian.{term_jacobian}
use Rattle.terms.specs.declared.Term.{Term}
use Rattle.solver.specs.Call.{FitInputs}
use Rattle.solver.specs.declared.Settings.{Settings}

-- ---- stars

-- raw differences in arcseconds, pier code, sheet
pub record Star : Type 0 where
  pub dh : Float
  pub dd : Float
  pub pier : ℕ
  pub sheet : List Float

-- observation i uses the 37 numbers that begin at 37·i
abbrev pub sheet_at : List Float → ℕ → List Float
sheet_at sheets i = part sheets (sheet_numbers * i) sheet_numbers

abbrev pub star_at : List Float → List Float → List ℕ → List Float → ℕ → Star
star_at dh dd pier sheets i = record { dh = at dh i; dd = at dd i; pier = get_or pier i 0; sheet = sheet_at sheets i }

-- the stars at indices
abbrev pub stars_at : List Float → List Float → List ℕ → List Float → List ℕ → List Star
stars_at dh dd pier sheets used = map (star_at dh dd pier sheets) used

-- the same where no differences are lent (nor pier codes, where only cos dec is asked for): a column asks for none
abbrev pub sights_at : List ℕ → List Float → List ℕ → List Star
sights_at pier sheets used = stars_at [] [] pier sheets used

-- ---- a run

-- a flag of 0 is a free term's
abbrev pub is_free : List ℕ → ℕ → Bool
is_free fixed j = eqb (get_or fixed j 0) 0

-- of a list with one element for each flag, those whose flag is 0
unfoldable pub kept : {A : Type 0} → List ℕ → List A → List A
kept [] xs = []
kept (f ∷ fs) [] = []
kept (f ∷ fs) (x ∷ xs) = cond (eqb f 0) (x ∷ kept fs xs) (kept fs xs)

-- 0 to n - 1
abbrev pub up_to : ℕ → List ℕ
up_to n = table n (λ i. i)

-- collect_indices: those of the flags that are 0
unfoldable pub collect_indices : List ℕ → List ℕ
collect_indices flags = kept flags (up_to (length flags))

-- the name of term j lies in the 16 bytes that begin at 16·j
abbrev pub term_at : List ℕ → ℕ → Term
term_at names j = term_or_blank (read_term (slot names j))

-- its stars, m terms, the indices of the free ones, and the settings
pub record Run : Type 0 where
  pub stars : List Star
  pub m : ℕ
  pub term : ℕ → Term
  pub free : List ℕ
  pub settings : Settings

-- what the functions of a fit are lent: m names in slots, the indices of the free terms; differences, pier codes and sheets, and the indices of the
-- stars that count; the settings
pub record RunInputs : Type 0 where
  pub m : ℕ
  pub names : List ℕ
  pub free : List ℕ
  pub dh : List Float
  pub dd : List Float
  pub pier : List ℕ
  pub sheets : List Float
  pub used : List ℕ
  pub settings : Settings

abbrev pub run_inputs : ℕ → List ℕ → List ℕ → List Float → List Float → List ℕ → List Float → List ℕ → Settings → RunInputs
run_inputs m names free dh dd pier sheets used settings =
    record { m = m; names = names; free = free; dh = dh; dd = dd; pier = pier; sheets = sheets; used = used; settings = settings }

abbrev pub run_from : RunInputs → Run
run_from l =
    record { stars = stars_at l.dh l.dd l.pier l.sheets l.used; m = l.m; term = term_at l.names; free = l.free; settings = l.settings }

-- of a call: every star counts
abbrev pub run_inputs_of : FitInputs → RunInputs
run_inputs_of l =
    run_inputs (length l.coefficients) l.names (collect_indices l.fixed) l.dh l.dd l.pier l.sheets (up_to (length l.dh)) l.settings

abbrev pub run_of : FitInputs → Run
run_of l = run_from (run_inputs_of l)

-- how many rows the data have, and how many numbers a column of scratch
abbrev pub rows_of : Run → ℕ
rows_of r = 2 * length r.stars

abbrev pub height_of : Run → ℕ
height_of r = rows_of r + 2 * r.m

-- ---- columns and residuals

-- two numbers for each star
unfoldable pub rows : (Star → Float) → (Star → Float) → List Star → List Float
rows f g [] = []
rows f g (s ∷ ss) = f s ∷ g s ∷ rows f g ss

-- cos_dec_per_obs
abbrev pub cos_dec : List Float → Float
cos_dec sheet = at sheet (place_dec 1 + 1)

abbrev pub star_jacobian : Settings → Term → Star → Pair
star_jacobian c t s = term_jacobian t s.sheet c.sin_lat c.cos_lat (sign_of (side_of s.pier))

-- what the equatorial terms read of a star
abbrev pub point_at : Settings → Star → Point
point_at c s = point_of s.sheet c.sin_lat c.cos_lat (sign_of (side_of s.pier))

-- a pair for each star
unfoldable pub pairs : (Star → Pair) → List Star → List Float
pairs f ss = rows (λ s. (f s).dh) (λ s. (f s).dd) ss

-- build_design_matrix: the column of a term
unfoldable pub column : Settings → List Star → Term → List Float
column c ss t = pairs (star_jacobian c t) ss

-- scale_a_ha_rows_by_cos_dec: its hour-angle rows times cos dec
unfoldable pub sky_column : Settings → List Star → Term → List Float
sky_column c ss t = rows (λ s. (star_jacobian c t s).dh ⊗ cos_dec s.sheet) (λ s. (star_jacobian c t s).dd) ss

-- of a run: the column of term j, and the same on the sky
abbrev pub column_of : Run → ℕ → List Float
column_of r j = column r.settings r.stars (r.term j)

abbrev pub sky_of : Run → ℕ → List Float
sky_of r j = sky_column r.settings r.stars (r.term j)

-- build_residuals
unfoldable pub differences : List Star → List Float
differences ss = rows (λ s. s.dh) (λ s. s.dd) ss

-- scale_ha_rows_by_cos_dec: of two numbers a star, the first times cos dec
unfoldable pub sky_rows : List Star → List Float → List Float
sky_rows [] b = []
sky_rows (s ∷ ss) [] = []
sky_rows (s ∷ ss) (h ∷ []) = []
sky_rows (s ∷ ss) (h ∷ d ∷ b) = (h ⊗ cos_dec s.sheet) ∷ d ∷ sky_rows ss b

-- build_residuals, and then its hour-angle rows times cos dec
unfoldable pub sky_differences : List Star → List Float
sky_differences ss = rows (λ s. s.dh ⊗ cos_dec s.sheet) (λ s. s.dd) ss

-- ---- products

-- b less, or with, a column times c
abbrev pub less : Float → List Float → List Float → List Float
less c b a = zip_with (λ y x. y ⊖ x ⊗ c) b a

abbrev pub plus : Float → List Float → List Float → List Float
plus c b a = zip_with (λ y x. y ⊕ x ⊗ c) b a

-- subtract_all_contributions of m columns: a zero coefficient, -0 too, is skipped
unfoldable pub subtract_all : ℕ → (ℕ → Float) → (ℕ → List Float) → List Float → List Float
subtract_all m c a b = each m 0 (λ j y. cond (eq (c j) #0) y (less (c j) y (a j))) b

-- a matrix of m columns of n numbers times a vector: each row's sum from 0 in rising column
unfoldable pub product : ℕ → ℕ → (ℕ → Float) → (ℕ → List Float) → List Float
product n m c a = each m 0 (λ j p. plus (c j) p (a j)) (replicate n #0)

-- the same as residuals_under_state has it: a zero coefficient, -0 too, is skipped
unfoldable pub predicted : ℕ → ℕ → (ℕ → Float) → (ℕ → List Float) → List Float
predicted n m c a = each m 0 (λ j p. cond (eq (c j) #0) p (plus (c j) p (a j))) (replicate n #0)

-- extract_columns: that of the i-th free term
abbrev pub extracted : List ℕ → (ℕ → List Float) → ℕ → List Float
extracted free a i = a (get_or free i 0)

-- f 0, f 1 and so on in the places of the free terms
unfoldable pub scattered : List ℕ → (ℕ → Float) → List Float → List Float
scattered free f d = each (length free) 0 (λ i t. set t (get_or free i 0) (f i)) d

-- ---- Huber weights, as build_lm_system has them

-- a number of a row whose residual is r: times sqrt(k / |r|) where |r| is above k
unfoldable pub weighed : Float → Float → Float → Float
weighed k r x = cond (lt k (abs r)) (x ⊗ sqrt binary64 (k ⊘ abs r)) x

-- a column whose rows have the residuals b; as it is where k isn't above 0
unfoldable pub weighing : Float → List Float → List Float → List Float
weighing k b a = cond (lt #0 k) (zip_with (weighed k) b a) a

-- the sky column of the term in slot j, whose rows have the residuals b
abbrev pub weighed_at : Float → List Float → Settings → List Star → List ℕ → ℕ → List Float
weighed_at k b c ss names j = weighing k b (sky_column c ss (term_at names j))

-- ---- columns one after the other, as the solver reads them: h numbers each, with zeros below the data rows
unfoldable pub stacked : ℕ → List (List Float) → List Float
stacked h [] = []
stacked h (a ∷ l) = a ++ replicate (h - length a) #0 ++ stacked h l

-- of the columns a those of a run's free terms
abbrev pub free_columns : Run → (ℕ → List Float) → List Float
free_columns r a = stacked (height_of r) (map a r.free)
