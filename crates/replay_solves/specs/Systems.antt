-- What the functions of a replayed system count on. Definitions only.
use Rattle.std.specs.Prelude.{ℕ, ◌≤◌, ◌<◌, ◌≡◌, List, length, Float}
use Rattle.limits.specs.Limits.{max_terms}
use Rattle.linalg.specs.Linalg.{in_order}

-- at most 256 rows and 1 to 32 columns, in a list with room for b and the largest system
pub record Sized (rows m : ℕ) (w : List Float) : Type 0 where
  pub few_rows : rows ≤ 256
  pub some-columns : 0 < m
  pub few_columns : m ≤ max_terms
  pub room : length w ≡ 10496

-- the first m of `order` are columns in the order of some values
abbrev pub Ordered : ℕ → List ℕ → Type 0
Ordered m order = (s : List Float) × (order ≡ in_order m s)
