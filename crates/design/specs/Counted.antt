-- What the loops over stars and terms count on. Definitions only.
use Rattle.std.specs.Prelude.{ℕ, ◌+◌, ◌*◌, ◌≤◌, ◌<◌, ◌⊎◌, ◌≡◌, List, length, get_or, Float, Ok, IsOk}
use Rattle.limits.specs.Limits.{max_terms, max_stars, slot_bytes, sheet_numbers}
use Rattle.terms.specs.Names.{read_term}
use Rattle.terms.specs.Slots.{slot, names_read}
use Rattle.design.specs.Design.{RunInputs}

-- every index is below n
abbrev pub Below : ℕ → List ℕ → Type 0
Below n is = (i : ℕ) → i < length is → get_or is i 0 < n

-- a loop over stars: each has a pier code and 37 numbers of sheets
pub record Seen (pier : List ℕ) (sheets : List Float) (used : List ℕ) : Type 0 where
  pub sheets_count : length sheets ≡ sheet_numbers * length pier
  pub stars : length pier ≤ max_stars
  pub used_few : length used ≤ length pier
  pub used_below : Below (length pier) used

-- a loop over terms: each has a slot
abbrev pub Named : List ℕ → List ℕ → Type 0
Named names free = (i : ℕ) → i < length free → slot_bytes * get_or free i 0 + slot_bytes ≤ length names

-- whose name is read
abbrev pub Read : List ℕ → List ℕ → Type 0
Read names free = (i : ℕ) → i < length free → IsOk (read_term (slot names (get_or free i 0)))

-- a run: at most 32 terms, whose names are read and of which some are free, at most 1,024 stars, and no fewer that count than free terms
pub record Counted (l : RunInputs) : Type 0 where
  pub terms : l.m ≤ max_terms
  pub names_count : length l.names ≡ slot_bytes * l.m
  pub names_read : names_read l.names l.m ≡ Ok tt
  pub some_free : 0 < length l.free
  pub free_few : length l.free ≤ l.m
  pub free_below : Below l.m l.free
  pub stars : length l.dh ≤ max_stars
  pub dd_count : length l.dd ≡ length l.dh
  pub pier_count : length l.pier ≡ length l.dh
  pub sheets_count : length l.sheets ≡ sheet_numbers * length l.dh
  pub used_few : length l.used ≤ length l.dh
  pub used_below : Below (length l.dh) l.used
  pub used_enough : length l.free ≤ length l.used

-- the n numbers from x on end before y, or begin after the n from y on
abbrev pub Apart : ℕ → ℕ → ℕ → Type 0
Apart x n y = (x + n ≤ y) ⊎ (y + n ≤ x)
