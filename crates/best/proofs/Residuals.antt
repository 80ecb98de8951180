-- A residual that is fine, in units: it's a whole number of them, zero or of a size that its square keeps within one rounding.
-- Assumes nothing.
use mathlib.Core.Path.{◌≡◌, sym, ap, ◌∙◌}
use mathlib.Core.Logic.{◌⊎◌, inl, inr}
use Prim.Native.Nat.{ℕ, zero, suc, ◌*◌, ◌/◌, ◌%◌, ◌^◌, ◌≤◌, ◌<◌, zero-le}
use native.Mathlib.Nat.{le_trans, le_of_eq, mul_comm, mul_right_comm, mul-le-mul_right, mul-le-mul, zero-mul, mul-div_cancel, le_of_mul-le-mul_right, eq_of_mul-eq-mul_right}
use mathlib.Core.Bool.{Bool, ◌&&◌}
use mir.Facts.{or_yes}
use lib.IntN.{ℤ}
use lib.Dec.{T, leb, ltb, eqb, leb→le, eqb→eq}
use lib.Pow.{pow_pos}
use lib.Ieee.{Float, nan, inf, fin, binary64, up, down, fits}
use lib.Ieee.Digits.{Equals}
use lib.Ieee.Fits.{down_pos, and_l, and_r}
use Rattle.float.specs.Float.{◌⊗◌}
use Rattle.float.proofs.Units.{in_units}
use Rattle.best.specs.ChiSquare.{units_of, tame, TameValue}
use Rattle.best.proofs.Rounding.{P}
use Rattle.best.proofs.Operations.{Within, square_within}

-- ---- a whole number of units

low_enough : (s : Bool) (m : ℕ) (e : ℤ) → T (fits binary64 (fin s (suc m) e)) → down e ≤ P
unfolding fits
low_enough s m e t =
    let A = eqb (suc m % 2) 1 && ltb (suc m) (2 ^ 53) in
    leb→le (down e) P (and_r A (leb (down e) P) (and_l (A && leb (down e) P) (ltb (suc m * up e) (2 ^ 1024 * down e)) t))

whole : (n q c : ℕ) → 0 < c → n ≡ q * c → n ≡ n / c * c
whole n q c C e = e ∙ ap (λ (z : ℕ). z * c) (sym (ap (λ (z : ℕ). z / c) e ∙ mul-div_cancel q C))

pub units_of_lem : (x : Float) → TameValue x → Equals x (units_of x) P
unfolding tame units_of
units_of_lem nan f = f.1
units_of_lem (inf s) f = f.1
units_of_lem (fin s zero e) f =
    whole (0 * up e * P) 0 (down e) (down_pos e) (ap (λ (w : ℕ). w * P) (zero-mul (up e)) ∙ zero-mul P ∙ sym (zero-mul (down e)))
units_of_lem (fin s (suc m) e) f =
    let (j, h) = in_units 1074 (suc m) e (low_enough s m e f.0) in
    whole (suc m * up e * P) (suc m * 2 ^ j) (down e) (down_pos e) h

-- ---- its size: m / c is u units

lower : (m c u : ℕ) → 0 < c → m * P ≡ u * c → c ≤ m * 2 ^ 400 → 2 ^ 674 ≤ u
lower m c u C e h =
    le_of_mul-le-mul_right {k = 2 ^ 400}
    (le_of_mul-le-mul_right {k = c}
    (le_trans (le_of_eq (mul_comm P c))
    (le_trans (mul-le-mul_right P h)
    (le_of_eq (mul_right_comm m (2 ^ 400) P ∙ ap (λ (z : ℕ). z * 2 ^ 400) e ∙ mul_right_comm u c (2 ^ 400)))))
    C)
    (pow_pos 400)

upper : (m c u : ℕ) → 0 < c → m * P ≡ u * c → m ≤ 2 ^ 400 * c → u ≤ 2 ^ 1474
upper m c u C e h =
    le_of_mul-le-mul_right {k = c} (le_trans (le_of_eq (sym e)) (le_trans (mul-le-mul_right P h) (le_of_eq (mul_right_comm (2 ^ 400) c P)))) C

none : (m k u c : ℕ) → 0 < c → m ≡ 0 → m * k * P ≡ u * c → u ≡ 0
none m k u c C z e =
    eq_of_mul-eq-mul_right c C u 0
    (sym e ∙ ap (λ (w : ℕ). w * k * P) z ∙ ap (λ (w : ℕ). w * P) (zero-mul k) ∙ zero-mul P ∙ sym (zero-mul c))

size_of : (x : Float) (u : ℕ) → T (tame x) → Equals x u P → ((u ≡ 0) ⊎ (2 ^ 674 ≤ u)) × (u ≤ 2 ^ 1474)
unfolding tame
size_of nan u t e = absurd t
size_of (inf s) u t e = absurd t
size_of (fin s m c) u t e =
    let A = leb (down c) (m * up c * 2 ^ 400) in
    let B = leb (m * up c) (2 ^ 400 * down c) in
    elim (or_yes (eqb m 0) (A && B) t) [
      | inl z ↦ let y = none m (up c) u (down c) (down_pos c) (eqb→eq m 0 z) e in (inl y, le_trans (le_of_eq y) zero-le)
      | inr b ↦ (
        inr (lower (m * up c) (down c) u (down_pos c) e (leb→le (down c) (m * up c * 2 ^ 400) (and_l A B b))),
        upper (m * up c) (down c) u (down_pos c) e (leb→le (m * up c) (2 ^ 400 * down c) (and_r A B b)),
      )
    ]

-- ---- its square

pub square_of : (x : Float) → TameValue x → Within (x ⊗ x) 1 (units_of x * units_of x)
square_of x f =
    let e = units_of_lem x f in
    let (lo, hi) = size_of x (units_of x) f.1 e in
    square_within x (units_of x) e lo hi

pub square_le : (x : Float) → TameValue x → units_of x * units_of x ≤ 2 ^ 2948
square_le x f = let (lo, hi) = size_of x (units_of x) f.1 (units_of_lem x f) in mul-le-mul hi hi
