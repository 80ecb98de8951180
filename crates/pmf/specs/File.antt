-- Where the fields of a file lie, and what they hold (docs/SCOPE.md 11.1, docs/PMF.md). Definitions only.
use Rattle.std.specs.Prelude.{ℕ, ◌+◌, ◌*◌, ◌/◌, ◌%◌, false, cond, List, ltb, eqb, get_or, Float}
use Rattle.std.specs.Float.{inf, binary64}
use Rattle.std.specs.Float.Ieee.{of_bits}
use Rattle.limits.specs.Limits.{slot_bytes, sheet_numbers}
use Rattle.sequence.specs.Sequence.{part, table}
use Rattle.little_endian.specs.LittleEndian.{number_at}
use Rattle.solver.specs.declared.IterOptions.{IterOptions}
use Rattle.solver.specs.declared.Settings.{Settings}
use Rattle.solver.specs.Call.{FitInputs, settings_of, inputs}

-- ---- how large a file may be

abbrev pub file_terms : ℕ
file_terms = 16

abbrev pub file_stars : ℕ
file_stars = 100

-- ---- the nine bytes of the header

abbrev pub mark_of : List ℕ → List ℕ
mark_of s = part s 0 3

abbrev pub version_of : List ℕ → ℕ
version_of s = number_at s 3 2

abbrev pub term_count : List ℕ → ℕ
term_count s = get_or s 5 0

abbrev pub mode_of : List ℕ → ℕ
mode_of s = get_or s 6 0

abbrev pub star_count : List ℕ → ℕ
star_count s = number_at s 7 2

-- ---- the places behind the header, of m terms and n stars

-- double k of the eight: sin lat, cos lat, fit_tol, tol_rad, initial_lambda, lambda_up, lambda_down, huber_k
abbrev pub setting_place : ℕ → ℕ
setting_place k = 9 + 8 * k

abbrev pub max_iter_place : ℕ
max_iter_place = 73

abbrev pub names_place : ℕ
names_place = 75

abbrev pub flags_place : ℕ → ℕ
flags_place m = names_place + slot_bytes * m

abbrev pub coefficient_place : ℕ → ℕ → ℕ
coefficient_place m j = names_place + 17 * m + 8 * j

-- a term has 25 bytes: its slot, its flag and its coefficient; a star has 313: the pier code, two differences, and a sheet
abbrev pub term_bytes : ℕ
term_bytes = 25

abbrev pub star_bytes : ℕ
star_bytes = 313

abbrev pub pier_place : ℕ → ℕ → ℕ
pier_place m i = names_place + term_bytes * m + star_bytes * i

abbrev pub dh_place : ℕ → ℕ → ℕ
dh_place m i = 1 + names_place + term_bytes * m + star_bytes * i

abbrev pub dd_place : ℕ → ℕ → ℕ
dd_place m i = 9 + names_place + term_bytes * m + star_bytes * i

abbrev pub sheet_place : ℕ → ℕ → ℕ → ℕ
sheet_place m i k = 17 + names_place + term_bytes * m + star_bytes * i + 8 * k

abbrev pub file_size : ℕ → ℕ → ℕ
file_size m n = names_place + term_bytes * m + star_bytes * n

abbrev pub longest_file : ℕ
longest_file = file_size file_terms file_stars

-- ---- what they hold

-- The double in eight bytes from i on. A pattern that is no finite number's is read as infinity: so no NaN is made of a pattern, and
-- question 4 refuses the field in its place.
unfoldable pub double : List ℕ → ℕ → Float
double s i =
    let bits = number_at s i 8 in
    cond (ltb (bits % 0x8000_0000_0000_0000) 0x7ff0_0000_0000_0000) (of_bits binary64 bits) (inf false)

abbrev pub coefficients_of : List ℕ → ℕ → List Float
coefficients_of s m = table m (λ j. double s (coefficient_place m j))

abbrev pub piers_of : List ℕ → ℕ → ℕ → List ℕ
piers_of s m n = table n (λ i. get_or s (pier_place m i) 0)

-- the sheets one after the other: number k is number k % 37 of star k / 37
abbrev pub sheets_of : List ℕ → ℕ → ℕ → List Float
sheets_of s m n = table (sheet_numbers * n) (λ k. double s (sheet_place m (k / sheet_numbers) (k % sheet_numbers)))

abbrev pub differences_of : List ℕ → ℕ → (ℕ → ℕ) → List Float
differences_of s n place = table n (λ i. double s (place i))

abbrev pub settings_in : List ℕ → Settings
settings_in s = settings_of (double s (setting_place 0)) (double s (setting_place 1)) (double s (setting_place 2))

unfoldable pub input_of : List ℕ → FitInputs
input_of s =
    let m = term_count s in
    let n = star_count s in
    inputs
    (part s names_place (slot_bytes * m))
    (part s (flags_place m) m)
    (coefficients_of s m)
    (differences_of s n (dh_place m))
    (differences_of s n (dd_place m))
    (piers_of s m n)
    (sheets_of s m n)
    (settings_in s)

-- mode 3 is robust
unfoldable pub options_of : List ℕ → IterOptions
options_of s =
    record {
      max_iter = number_at s max_iter_place 2;
      tol_rad = double s (setting_place 3);
      initial_lambda = double s (setting_place 4);
      lambda_up = double s (setting_place 5);
      lambda_down = double s (setting_place 6);
      robust = eqb (mode_of s) 3;
      huber_k = double s (setting_place 7);
    }
