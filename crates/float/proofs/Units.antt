-- A finite value as a whole number of the format's smallest one: its digits, its bits, and what `units` makes. Assumes nothing.
use Prim.Native.Nat.{ℕ, zero, suc, ◌+◌, ◌-◌, ◌*◌, ◌/◌, ◌%◌, ◌^◌, ◌≤◌, ◌<◌}
use mathlib.Core.Path.{◌≡◌, sym, ap, ◌∙◌, subst}
use mathlib.Core.Bool.{Bool, true, false, ◌&&◌, cond}
use mathlib.Core.Logic.{◌⊎◌, inl, inr}
use native.Mathlib.Nat.{le_trans, le_of_eq, le_of_lt, le_refl, le_antisymm, lt_irrefl, lt_of_lt_of_le, lt_of_le_of_lt, zero-add, eq-zero-or-pos}
use native.Mathlib.Nat.{mul-pos, mul-le-mul_right, mul-lt-mul_of_pos_right, mul_assoc, mul-one, mul-div_cancel, zero-mul, eq_of_mul-eq-mul_right}
use native.Mathlib.Omega.{arith}
use lib.IntN.{ℤ, pos, negsuc}
use lib.Dec.{T, leb, ltb, eqb, leb→le, ltb→lt, lt→ltb}
use lib.Pow.{pow-add, pow_pos, pow_mono, pow-lt, shl_lt}
use lib.Ieee.{Float, nan, inf, fin, Format, prec, emax, low, up, down, size, odd, units, hid, top, fits, to_bits, of_bits}
use lib.Ieee.Digits.{size-lt, size-le}
use lib.Ieee.Fits.{and_l, and_r, odd-fits, down_pos}
use lib.Ieee.Exact.{HasValue, units_val}
use lib.Ieee.Bits.{of_bits-to_bits}
use Rattle.float.proofs.Powers.{pow_lt_back}

-- ---- digits

pub size_exact : (a n : ℕ) → 2 ^ a ≤ n → n < 2 ^ suc a → size n ≡ suc a
size_exact a n lo hi = le_antisymm (size-le n (suc a) hi) (pow_lt_back a (size n) (lt_of_le_of_lt lo (size-lt n)))

-- what lies between q * 2 ^ k and (q + 1) * 2 ^ k, for a q of p + 1 digits, has p + 1 + k digits
pub shifted_size : (p k q w : ℕ) → 2 ^ p ≤ q → q < 2 ^ suc p → q * 2 ^ k ≤ w → w < (q + 1) * 2 ^ k → size w - suc p ≡ k
shifted_size p k q w lo hi a b =
    ap (λ (x : ℕ). x - suc p)
    (size_exact (p + k) w
    (le_trans (le_of_eq (pow-add 2 p k)) (le_trans (mul-le-mul_right (2 ^ k) lo) a))
    (lt_of_lt_of_le b (le_trans (mul-le-mul_right (2 ^ k) (above q (2 ^ suc p) hi)) (le_of_eq (sym (pow-add 2 (suc p) k) ∙ ap (λ (x : ℕ). 2 ^ x) (swap p k))))))
    ∙ drop p k
  where
    above : (q m : ℕ) → q < m → q + 1 ≤ m
    above q m h = omega arith

    swap : (p k : ℕ) → suc p + k ≡ suc (p + k)
    swap p k = omega arith

    drop : (p k : ℕ) → suc (p + k) - suc p ≡ k
    drop p k = omega arith

-- ---- a value of the format is a number of at most prec digits, and zeros

pub record Digits (p a : ℕ) : Type 0 where
  pub c : ℕ
  pub j : ℕ
  pub small : c < 2 ^ p
  pub is : a ≡ c * 2 ^ j

back : (l a : ℕ) → a ≤ l → l - a + a ≡ l
back l a h = omega arith

pub pow_le_back : (a l : ℕ) → 2 ^ a ≤ 2 ^ l → a ≤ l
pow_le_back a l h = le_of (pow_lt_back a (suc l) (lt_of_le_of_lt h (pow-lt (le_refl (suc l)))))
  where
    le_of : {a l : ℕ} → a < suc l → a ≤ l
    le_of h = omega arith

-- m * 2 ^ e is m * 2 ^ j units
pub in_units : (l m : ℕ) (e : ℤ) → down e ≤ 2 ^ l → (j : ℕ) × (m * up e * 2 ^ l ≡ m * 2 ^ j * down e)
in_units l m (pos k) d = (k + l, mul_assoc m (2 ^ k) (2 ^ l) ∙ ap (λ (x : ℕ). m * x) (sym (pow-add 2 k l)) ∙ sym (mul-one (m * 2 ^ (k + l))))
in_units l m (negsuc k) d =
    let j = l - suc k in
    let power : 2 ^ l ≡ 2 ^ j * 2 ^ suc k = ap (λ (x : ℕ). 2 ^ x) (sym (back l (suc k) (pow_le_back (suc k) l d))) ∙ pow-add 2 j (suc k) in
    (j, ap (λ (x : ℕ). x * 2 ^ l) (mul-one m) ∙ ap (λ (x : ℕ). m * x) power ∙ sym (mul_assoc m (2 ^ j) (2 ^ suc k)))

value_digits : (f : Format) (m : ℕ) (e : ℤ) (a : ℕ) → m < 2 ^ prec f → down e ≤ 2 ^ low f → m * up e * 2 ^ low f ≡ a * down e → Digits (prec f) a
value_digits f m e a s d v =
    let u = in_units (low f) m e d in
    record { c = m; j = u.0; small = s; is = eq_of_mul-eq-mul_right (down e) (down_pos e) a (m * 2 ^ u.0) (sym v ∙ u.1) }

zero_units : (l : ℕ) (e : ℤ) (a : ℕ) → (a ≡ 0) ⊎ (0 < a) → 0 * up e * 2 ^ l ≡ a * down e → a ≡ 0
zero_units l e a (inl z) v = z
zero_units l e a (inr p) v = absurd (lt_irrefl 0 (subst (λ (x : ℕ). 0 < x) (sym v ∙ ap (λ (y : ℕ). y * 2 ^ l) (zero-mul (up e)) ∙ zero-mul (2 ^ l)) (mul-pos p (down_pos e))))

pub digits_of : (f : Format) (x : Float) (a : ℕ) → T (fits f x) → HasValue x false a (2 ^ low f) → Digits (prec f) a
unfolding fits
digits_of f nan a t v = absurd v
digits_of f (inf s) a t v = absurd v
digits_of f (fin s zero e) a t v = record { c = 0; j = 0; small = pow_pos (prec f); is = zero_units (low f) e a (eq-zero-or-pos a) v.1 }
digits_of f (fin s (suc m) e) a t v =
    let A = eqb (suc m % 2) 1 in
    let B = ltb (suc m) (2 ^ prec f) in
    let C = leb (down e) (2 ^ low f) in
    let D = ltb (suc m * up e) (2 ^ suc (emax f) * down e) in
    value_digits f (suc m) e a
    (ltb→lt (suc m) (2 ^ prec f) (and_r A B (and_l (A && B) C (and_l (A && B && C) D t))))
    (leb→le (down e) (2 ^ low f) (and_r (A && B) C (and_l (A && B && C) D t)))
    v.1

-- ---- the bits of a value

bits_of_value : (f : Format) (x : Float) (a : ℕ) → HasValue x false a (2 ^ low f) → to_bits f x ≡ (size a - prec f) * hid f + a / 2 ^ (size a - prec f)
unfolding to_bits
bits_of_value f nan a v = absurd v
bits_of_value f (inf s) a v = absurd v
bits_of_value f (fin s m e) a v =
    ap (λ (t : Bool). let n = m * up e * 2 ^ low f / down e in cond t (top f) 0 + (size n - prec f) * hid f + n / 2 ^ (size n - prec f)) v.0
    ∙ ap (λ (n : ℕ). 0 + (size n - prec f) * hid f + n / 2 ^ (size n - prec f)) (ap (λ (y : ℕ). y / down e) v.1 ∙ mul-div_cancel a (down_pos e))
    ∙ ap (λ (y : ℕ). y + a / 2 ^ (size a - prec f)) (zero-add ((size a - prec f) * hid f))

pub units_fits : (f : Format) (s : Bool) (q k : ℕ) → q < 2 ^ prec f → q * 2 ^ k < 2 ^ (low f + suc (emax f)) → T (fits f (units f s q k))
unfolding units
units_fits f s q k a h = go (ltb (q * 2 ^ k) (2 ^ (low f + suc (emax f)))) (lt→ltb (q * 2 ^ k) (2 ^ (low f + suc (emax f))) h)
  where
    go : (b : Bool) → T b → T (fits f (cond b (odd (suc (prec f)) s q k (low f)) (inf s)))
    go true t = odd-fits f (suc (prec f)) s q k (lt_of_lt_of_le a (pow_mono (le_of_lt (le_refl (suc (prec f)))))) (le_of_lt a) h
    go false t = absurd t

pub units_bits : (f : Format) (p r k : ℕ) → prec f ≡ suc p → 2 ^ p ≤ r → r < 2 ^ prec f → prec f + k ≤ low f + suc (emax f) → of_bits f (k * hid f + r) ≡ units f false r k
units_bits f p r k e lo hi fit =
    let u = units f false r k in
    let h : r * 2 ^ k < 2 ^ (low f + suc (emax f)) = lt_of_lt_of_le (shl_lt (prec f) k hi) (pow_mono fit) in
    let z : size (r * 2 ^ k) - prec f ≡ k =
    ap (λ (x : ℕ). size (r * 2 ^ k) - x) e ∙ shifted_size p k r (r * 2 ^ k) lo (subst (λ (x : ℕ). r < 2 ^ x) e hi) (le_refl (r * 2 ^ k)) (mul-lt-mul_of_pos_right (more r) (pow_pos k)) in
    ap (of_bits f)
    (sym (bits_of_value f u (r * 2 ^ k) (units_val f false r k h)
    ∙ ap (λ (x : ℕ). x * hid f + r * 2 ^ k / 2 ^ x) z
    ∙ ap (λ (x : ℕ). k * hid f + x) (mul-div_cancel r (pow_pos k))))
    ∙ of_bits-to_bits f u (units_fits f false r k hi h)
  where
    more : (r : ℕ) → r < r + 1
    more r = omega arith
