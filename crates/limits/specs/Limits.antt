-- The sizes that the library is made for, and those of what is lent to it (docs/SCOPE.md 3 and 10.1). Definitions only.
use Rattle.std.specs.Prelude.{ℕ}

-- terms and stars of a fit, at most
abbrev pub max_terms : ℕ
max_terms = 32

abbrev pub max_stars : ℕ
max_stars = 1024

-- bytes of a name's slot, and numbers of a star's sheet
abbrev pub slot_bytes : ℕ
slot_bytes = 16

abbrev pub sheet_numbers : ℕ
sheet_numbers = 37
