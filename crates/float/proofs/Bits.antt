-- The bit patterns of values that are finite, above zero or no NaN. Assumes nothing.
use Prim.Native.Nat.{ℕ, suc, ◌+◌, ◌-◌, ◌*◌, ◌/◌, ◌%◌, ◌^◌, ◌≤◌, ◌<◌}
use mathlib.Core.Path.{◌≡◌, refl, sym, ap, ◌∙◌, subst}
use mathlib.Core.Bool.{Bool, true, false, not, ◌&&◌, true≢false, false≢true}
use mathlib.Core.Logic.{◌⊎◌, inl, inr}
use native.Mathlib.Nat.{mul_right_comm, mul-lt-mul_of_pos_right, div-lt_iff_lt-mul, mod-eq_of_lt, eq-zero-or-pos}
use native.Mathlib.Omega.{arith}
use lib.IntN.{ℤ}
use lib.Dec.{T, leb, ltb, eqb, ltb→lt}
use lib.Arith.{le→nltb}
use lib.Pow.{pow_pos}
use lib.Ieee.{Float, nan, inf, fin, binary64, up, down, size, eq, ne, fits, is_nan, of_bits, to_bits, nan_bits}
use lib.Ieee.Digits.{size-le}
use lib.Ieee.Fits.{and_r, down_pos, kept-lt}
use lib.Ieee.Bits.{of_bits-to_bits, nan_bits_above}

-- ---- a value's bits

pub no_nan : (x : Float) → ne x x ≡ false → T (not (is_nan x))
unfolding ne is_nan
no_nan nan h = absurd (true≢false h)
no_nan (inf s) h = tt
no_nan (fin s m e) h = tt

pub nan_alone : (x : Float) → is_nan x ≡ true → nan ≡ x
unfolding is_nan
nan_alone nan h = refl
nan_alone (inf s) h = absurd (false≢true h)
nan_alone (fin s m e) h = absurd (false≢true h)

zero_itself : eq (of_bits binary64 0) (of_bits binary64 0) ≡ true
unfolding eq of_bits
zero_itself = refl

pub bits_pos : (x : Float) → T (fits binary64 x) → eq x (of_bits binary64 0) ≡ false → 0 < to_bits binary64 x
bits_pos x f h = go (eq-zero-or-pos (to_bits binary64 x))
  where
    go : (to_bits binary64 x ≡ 0) ⊎ (0 < to_bits binary64 x) → 0 < to_bits binary64 x
    go (inl z) = absurd (true≢false (sym zero_itself ∙ ap (λ (y : Float). eq y (of_bits binary64 0)) (ap (of_bits binary64) (sym z) ∙ of_bits-to_bits binary64 x f) ∙ h))
    go (inr p) = p

-- a finite value's bits are below the infinity's
pub finite_bits : (m : ℕ) (e : ℤ) → T (fits binary64 (fin false (suc m) e)) → to_bits binary64 (fin false (suc m) e) < 2047 * 2 ^ 52
unfolding fits to_bits
finite_bits m e t =
    let l : ℕ = 1074 in
    let n = suc m * up e * 2 ^ l / down e in
    let A = eqb (suc m % 2) 1 && ltb (suc m) (2 ^ 53) && leb (down e) (2 ^ 1074) in
    let D = ltb (suc m * up e) (2 ^ 1024 * down e) in
    let d : suc m * up e < 2 ^ 1024 * down e = ltb→lt (suc m * up e) (2 ^ 1024 * down e) (and_r A D t) in
    let b : n < 2 ^ 2098 =
    (div-lt_iff_lt-mul {k = down e} {x = suc m * up e * 2 ^ l} {y = 2 ^ 2098} (down_pos e)).1
    (subst (λ (y : ℕ). suc m * up e * 2 ^ l < y) (mul_right_comm (2 ^ 1024) (down e) (2 ^ l)) (mul-lt-mul_of_pos_right d (pow_pos l))) in
    let s : size n ≤ 2098 = size-le n 2098 b in
    let k : n / 2 ^ (size n - 53) < 2 ^ 53 = kept-lt 53 n in
    sum (size n) (n / 2 ^ (size n - 53)) s k
  where
    sum : (s q : ℕ) → s ≤ 2098 → q < 2 ^ 53 → 0 + (s - 53) * 2 ^ 52 + q < 2047 * 2 ^ 52
    sum s q a b = omega arith

-- ---- a pattern below the infinity's is no NaN's

pub no_nan_bits : (r : ℕ) → r < 2047 * 2 ^ 52 → T (not (nan_bits binary64 r))
no_nan_bits r h =
    subst (λ (b : Bool). T (not b)) (sym (nan_bits_above binary64 r))
    (subst (λ (y : ℕ). T (not (ltb (2047 * 2 ^ 52) y))) (sym (mod-eq_of_lt (room r h))) (le→nltb (2047 * 2 ^ 52) r (low r h)))
  where
    room : (r : ℕ) → r < 2047 * 2 ^ 52 → r < 2 ^ 63
    room r h = omega arith

    low : (r : ℕ) → r < 2047 * 2 ^ 52 → r ≤ 2047 * 2 ^ 52
    low r h = omega arith
