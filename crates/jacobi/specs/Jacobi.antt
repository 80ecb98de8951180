-- One-sided Jacobi, sentence by sentence as docs/SCOPE.md 6.2 states it, on m columns that lie one after the other in a list.
-- A column is h numbers: `rows` of A, then m of V, then what the list holds besides. V starts as the identity, which `decomposed` of
-- linalg writes there. Definitions only.
use Rattle.std.specs.Prelude.{◌≡◌, Bool, true, false, cond, ℕ, zero, suc, ◌+◌, ◌-◌, ◌*◌, ◌≤◌, ◌<◌, Float}
use mathlib.Core.List.{List, zip_with}
use Rattle.std.proofs.lemmas.List.Edits.{sets}
use Rattle.std.specs.Float.{binary64}
use Rattle.std.specs.Float.Ieee.{neg, lt, of_bits}
use Rattle.float.specs.Float.{◌⊕◌, ◌⊖◌, ◌⊗◌, ◌⊘◌, #0, #1, #2, abs}
use Rattle.sequence.specs.Sequence.{part, each, dot}
use Rattle.sqrt.specs.Sqrt as Root
use Rattle.jacobi.specs.declared.Products.{Products}

abbrev pub sqrt : Float → Float
sqrt x = Root.sqrt binary64 x

-- 2^-100
abbrev pub tiny : Float
tiny = of_bits binary64 0x39b0_0000_0000_0000

-- columns turn only if γ·γ > 2^-100·(α·β)
abbrev pub turns : Float → Float → Float → Bool
turns α β γ = lt (tiny ⊗ (α ⊗ β)) (γ ⊗ γ)

-- ζ = (β-α)/(2·γ)
unfoldable pub zeta_of : Float → Float → Float → Float
zeta_of α β γ = (β ⊖ α) ⊘ (#2 ⊗ γ)

-- t = 1/(|ζ| + sqrt(1+ζ·ζ)), negated if ζ < 0
unfoldable pub tan_of : Float → Float
tan_of ζ = let t = #1 ⊘ (abs ζ ⊕ sqrt (#1 ⊕ ζ ⊗ ζ)) in cond (lt ζ #0) (neg t) t

-- c = 1/sqrt(1+t·t)
unfoldable pub cos_of : Float → Float
cos_of t = #1 ⊘ sqrt (#1 ⊕ t ⊗ t)

-- new p is c·p - s·q, new q is s·p + c·q
abbrev pub new_p : Float → Float → Float → Float → Float
new_p c s p q = c ⊗ p ⊖ s ⊗ q

abbrev pub new_q : Float → Float → Float → Float → Float
new_q c s p q = s ⊗ p ⊕ c ⊗ q

-- the n numbers from x on and the n from y on, turned
unfoldable pub turn : Float → Float → ℕ → ℕ → ℕ → List Float → List Float
turn c s n x y l =
    sets (sets l x (zip_with (new_p c s) (part l x n) (part l y n))) y (zip_with (new_q c s) (part l x n) (part l y n))

-- the list as it stands, and whether a pair of this sweep has turned
pub record State : Type 0 where
  pub w : List Float
  pub turned : Bool

-- column j of A
abbrev pub col : ℕ → ℕ → List Float → ℕ → List Float
col h rows w j = part w (j * h) rows

-- columns p and q; V's rows turn with A's; s = c·t
unfoldable pub pair : ℕ → ℕ → ℕ → ℕ → ℕ → State → State
pair h rows m p q st =
    let x = col h rows st.w p in
    let y = col h rows st.w q in
    let α = dot x x in
    let β = dot y y in
    let γ = dot x y in
    let t = tan_of (zeta_of α β γ) in
    let c = cos_of t in
    let s = c ⊗ t in
    cond (turns α β γ)
    (record { w = turn c s (rows + m) (p * h) (q * h) st.w; turned = true })
    st

-- the pairs of p with each q above it
unfoldable pub row : ℕ → ℕ → ℕ → ℕ → State → State
row h rows m p = each (m - (p + 1)) (p + 1) (pair h rows m p)

-- a sweep visits the pairs p < q in rising p, then q
unfoldable pub sweep : ℕ → ℕ → ℕ → List Float → State
sweep h rows m w = each m 0 (row h rows m) (record { w = w; turned = false })

-- the columns at the end, how many sweeps were made, and whether the last of them had no turn
pub record Factorised : Type 0 where
  pub w : List Float
  pub made : ℕ
  pub settled : Bool

-- a sweep in which no pair turns ends the factorisation; k have been made, at most n more are
unfoldable pub sweeps : ℕ → ℕ → ℕ → ℕ → ℕ → List Float → Factorised
sweeps h rows m zero k w = record { w = w; made = k; settled = false }
sweeps h rows m (suc n) k w =
    let st = sweep h rows m w in
    cond st.turned (sweeps h rows m n (k + 1) st.w) (record { w = st.w; made = k + 1; settled = true })

-- at most 30 sweeps are made
abbrev pub factorised : ℕ → ℕ → ℕ → List Float → Factorised
factorised h rows m w = sweeps h rows m 30 0 w

-- what holds of every count of sweeps with its flag: from 1 to 30 were made, and fewer than 30 only where the last had no turn
pub record SweepsInLimit (made : ℕ) (settled : Bool) : Type 0 where
  pub some : 1 ≤ made
  pub most : made ≤ 30
  pub fewer : made < 30 → settled ≡ true

-- α, β and γ of the n numbers from x on and the n from y on
abbrev pub products : ℕ → ℕ → ℕ → List Float → Products
products n x y w =
    let p = part w x n in
    let q = part w y n in
    record { alpha = dot p p; beta = dot q q; gamma = dot p q }
