-- Chi-square as a fit computes it, and exactly: in whole units, and as a fraction. `h i` and `d i` are the two residuals of star i on the
-- sky. Definitions only.
use Rattle.std.specs.Prelude.{ℕ, zero, suc, ◌+◌, ◌*◌, ◌/◌, ◌^◌, ◌≤◌, ◌<◌, ◌≡◌, Bool, false, ◌&&◌, ◌||◌, T, leb, eqb, Float}
use Rattle.std.specs.Float.{nan, inf, fin, binary64}
use Rattle.std.specs.Float.Ieee.{up, down, fits}
use Rattle.std.specs.Float.Ieee.Positive.{num, den}
use Rattle.float.specs.Float.{◌⊕◌, ◌⊗◌}
use Rattle.sequence.specs.Sequence.{sum_to}

-- computed, of n stars: one sum, in order
unfoldable pub chi : (ℕ → Float) → (ℕ → Float) → ℕ → Float
chi h d n = sum_to n (λ i. h i ⊗ h i ⊕ d i ⊗ d i)

-- ---- exactly, in units

-- a finite binary64 is a whole number of units of 2 ^ -1074: its size in them
unfoldable pub units_of : Float → ℕ
units_of x = num x * 2 ^ 1074 / den x

-- the sum of the squares, in units of 2 ^ -2148
unfoldable pub exact : (ℕ → Float) → (ℕ → Float) → ℕ → ℕ
exact h d zero = 0
exact h d (suc n) = exact h d n + (units_of (h n) * units_of (h n) + units_of (d n) * units_of (d n))

-- ---- exactly, as a fraction

-- a fraction that isn't negative
pub record Frac : Type 0 where
  pub over : ℕ
  pub under : ℕ

abbrev pub add_frac : Frac → Frac → Frac
add_frac a b = record { over = a.over * b.under + b.over * a.under; under = a.under * b.under }

-- the square of a finite float
abbrev pub squared : Float → Frac
squared x = record { over = num x * num x; under = den x * den x }

unfoldable pub exact_sum : (ℕ → Float) → (ℕ → Float) → ℕ → Frac
exact_sum h d zero = record { over = 0; under = 1 }
exact_sum h d (suc n) = add_frac (exact_sum h d n) (add_frac (squared (h n)) (squared (d n)))

-- a is u / q
abbrev pub Ratio : Frac → ℕ → ℕ → Type 0
Ratio a u q = (0 < a.under) × (a.over * q ≡ u * a.under)

-- ---- what the bound is of

-- finite, and zero or of a size from 2 ^ -400 to 2 ^ 400
unfoldable pub tame : Float → Bool
tame nan = false
tame (inf s) = false
tame (fin s m e) = eqb m 0 || (leb (down e) (m * up e * 2 ^ 400) && leb (m * up e) (2 ^ 400 * down e))

-- the residuals of n stars are tame
abbrev pub AllTame : (ℕ → Float) → (ℕ → Float) → ℕ → Type 0
AllTame h d n = (i : ℕ) → i < n → T (tame (h i)) × T (tame (d i))

-- a value of binary64, as every operation gives, that is tame
abbrev pub TameValue : Float → Type 0
TameValue x = T (fits binary64 x) × T (tame x)

abbrev pub AllTameValues : (ℕ → Float) → (ℕ → Float) → ℕ → Type 0
AllTameValues h d n = (i : ℕ) → i < n → TameValue (h i) × TameValue (d i)

-- the bound is one part in so many
abbrev pub parts : ℕ
parts = 2 ^ 41

-- a is at most (1 + 2 ^ -41) times b
abbrev pub AtMost : Frac → Frac → Type 0
AtMost a b = parts * (a.over * b.under) ≤ (parts + 1) * (b.over * a.under)
