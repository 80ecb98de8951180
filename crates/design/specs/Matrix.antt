-- The design matrix, from docs/SCOPE.md 13.3: its entries by star and term, and when it is filled up to a column. Definitions only.
use Rattle.std.specs.Prelude.{ℕ, ◌+◌, ◌-◌, ◌*◌, ◌≤◌, ◌<◌, ◌≡◌, cond, List, [], ◌∷◌, ◌++◌, length, get_or, replicate, Float}
use Rattle.std.specs.Float.Ieee.{lt}
use Rattle.float.specs.Float.{◌⊗◌, #0}
use Rattle.sequence.specs.Sequence.{at, part, concat_to, Only}
use Rattle.solver.specs.declared.Settings.{Settings}
use Rattle.terms.specs.declared.Term.{Term}
use Rattle.design.specs.Design.{Star, star_at, term_at, star_jacobian, cos_dec, weighed}
use Rattle.design.specs.Counted.{Seen, Named}

-- n stars and m terms, by their numbers, the settings, and what the rows are weighed by: k, and the residual of each row
pub record Matrix : Type 0 where
  pub n : ℕ
  pub star : ℕ → Star
  pub m : ℕ
  pub term : ℕ → Term
  pub settings : Settings
  pub k : Float
  pub residuals : List Float

-- that of the stars that count and of the free terms, with the residuals that lie at 6·n in w
abbrev pub matrix_of : List ℕ → List ℕ → List ℕ → List Float → List ℕ → Settings → Float → List Float → Matrix
matrix_of names free pier sheets used s k w =
    record {
      n = length used;
      star = λ i. star_at [] [] pier sheets (get_or used i 0);
      m = length free;
      term = λ j. term_at names (get_or free j 0);
      settings = s;
      k = k;
      residuals = part w (6 * length used) (2 * length used);
    }

-- ---- entries

-- a number of row q: weighed by the row's residual where k is above 0
abbrev pub in_row : Matrix → ℕ → Float → Float
in_row a q x = cond (lt #0 a.k) (weighed a.k (at a.residuals q) x) x

-- entry (i, j) is the Jacobian of term j at star i: in the hour-angle row times cos dec, and in the declination row
abbrev pub hour_entry : Matrix → ℕ → ℕ → Float
hour_entry a i j = in_row a (2 * i) ((star_jacobian a.settings (a.term j) (a.star i)).dh ⊗ cos_dec (a.star i).sheet)

abbrev pub dec_entry : Matrix → ℕ → ℕ → Float
dec_entry a i j = in_row a (2 * i + 1) (star_jacobian a.settings (a.term j) (a.star i)).dd

-- those of column j, star by star
abbrev pub entries : Matrix → ℕ → List Float
entries a j = concat_to a.n (λ i. hour_entry a i j ∷ dec_entry a i j ∷ [])

-- ---- filled up to column j

-- The columns lie from c on, h numbers each. Every column below j holds its entries for all stars, and zeros below them; every later one holds what it held
-- at the start, and so does all that lies outside the columns.
pub record FilledUpTo (a : Matrix) (c h j : ℕ) (was is : List Float) : Type 0 where
  pub filled : (p : ℕ) → p < j → part is (c + p * h) h ≡ entries a p ++ replicate (h - 2 * a.n) #0
  pub later : (p : ℕ) → j ≤ p → p < a.m → part is (c + p * h) h ≡ part was (c + p * h) h
  pub outside : Only c (a.m * h) was is

-- column j is filled: whatever a list was at the start, where it was filled up to column j it is filled up to the next
abbrev pub FillsColumn : (List Float → Matrix) → ℕ → ℕ → ℕ → List Float → List Float → Type 0
FillsColumn a c h j before after = (was : List Float) → FilledUpTo (a was) c h j was before → FilledUpTo (a was) c h (j + 1) was after

-- what filling counts on: a slot for each term, a pier code and a sheet for each star, and room for the columns, behind the residuals
pub record HasRoom (names free pier : List ℕ) (sheets : List Float) (used : List ℕ) (c h : ℕ) (w : List Float) : Type 0 where
  pub named : Named names free
  pub seen : Seen pier sheets used
  pub rows_fit : 2 * length used ≤ h
  pub behind : 8 * length used ≤ c
  pub columns_fit : c + length free * h ≤ length w
