-- One rounding of binary64 where no value is subnormal: the result and the exact value are within a factor 2 ^ 53 / (2 ^ 53 - 1) of one
-- another. A value is counted in units of 2 ^ -1074, the format's smallest. Assumes nothing.
use mathlib.Core.Path.{◌≡◌, sym, ap, ◌∙◌, subst}
use Prim.Native.Nat.{ℕ, ◌+◌, ◌-◌, ◌*◌, ◌/◌, ◌%◌, ◌^◌, ◌≤◌, ◌<◌, compare, Ordering}
use native.Mathlib.Nat.{le_trans, le_of_eq, lt_of_lt_of_le, lt_of_le_of_lt, mul-one, mul_comm, mul_assoc}
use native.Mathlib.Nat.{mul_left_comm, mul_right_comm, add-mul, one-mul, suc-mul, mul-le-mul_right, mul-pos}
use native.Mathlib.Nat.{div-add-mod', mod-lt, le-div_iff_mul-le, eq_of_mul-eq-mul_right, lt_of_mul-lt-mul_right, mul-lt-mul_of_pos_right}
use native.Mathlib.Omega.{arith}
use mathlib.Core.Bool.{Bool, false, not}
use lib.Dec.{T, is_le, compare_is_eq, eqb, leb→le, nleb→lt, eqb→eq, eqb_refl, lit≤, lit<}
use lib.Arith.{lt_of_le-ne}
use lib.Pow.{pow-add, pow_pos}
use lib.Ieee.{Float, nan, inf, fin, binary64, up, down, size, nearest, round}
use lib.Ieee.Digits.{size_reaches}
use lib.Ieee.Exact.{HasValue, round_exact}
use lib.Ieee.Nearest.{closest}
use lib.Ieee.Order.{drop, kept}
use lib.Ieee.Scale.{grid, round_val, normal_of_fraction}
use Rattle.best.proofs.Close.{Close, upto_one, close_eq}

-- P units are 1, and a rounding is within a factor M / N
abbrev pub P : ℕ
P = 2 ^ 1074

abbrev pub N : ℕ
N = 2 ^ 53 - 1

abbrev pub M : ℕ
M = 2 ^ 53

pub P_pos : 0 < P
P_pos = pow_pos 1074

pub N≤M : N ≤ M
N≤M = lit≤ tt

-- x is finite, not negative, and a units in size
abbrev pub Is : Float → ℕ → Type 0
Is x a = HasValue x false a P

-- ---- what `compare` says (`lib.Ieee.Nearest` has this, and keeps it)

abbrev Cmp : Ordering → ℕ → ℕ → Type 0
Cmp Ordering.lt a b = a < b
Cmp Ordering.eq a b = a ≡ b
Cmp Ordering.gt a b = b < a

cmp : (a b : ℕ) → Cmp (compare a b) a b
cmp a b =
    go (compare a b) (leb→le a b) (nleb→lt a b) (eqb→eq a b) (λ (e : a ≡ b). subst (λ (x : ℕ). T (eqb a x)) e (eqb_refl a))
  where
    go : (o : Ordering) → (T (is_le o) → a ≤ b) → (T (not (is_le o)) → b < a) → (T (compare_is_eq o) → a ≡ b) → (a ≡ b → T (compare_is_eq o)) → Cmp o a b
    go Ordering.lt h k e n = lt_of_le-ne (h tt) n
    go Ordering.eq h k e n = e tt
    go Ordering.gt h k e n = k tt

-- ---- the nearest whole number to n / u is off by a half at most

abbrev Half : ℕ → ℕ → ℕ → Type 0
Half q n u = (q * u * 2 ≤ n * 2 + u) × (n * 2 ≤ q * u * 2 + u)

parity : (w u : ℕ) → w % 2 * u ≤ u
parity w u = le_trans (mul-le-mul_right u (bit w)) (le_of_eq (one-mul u))
  where
    bit : (w : ℕ) → w % 2 ≤ 1
    bit w = omega arith

half_of : (o : Ordering) (w r n u : ℕ) → Cmp o (r * 2) u → w * u + r ≡ n → r < u → Half (nearest w o) n u
half_of Ordering.lt w r n u c e l = omega arith
half_of Ordering.eq w r n u c e l = omega (arith, parity w u, add-mul w (w % 2) u)
half_of Ordering.gt w r n u c e l = omega (arith, suc-mul w u)

closest_half : (n u : ℕ) → 0 < u → Half (closest n u) n u
closest_half n u U = half_of (compare (n % u * 2) u) (n / u) (n % u) n u (cmp (n % u * 2) u) (div-add-mod' n u) (mod-lt n U)

-- ---- so a value with all its digits is off by little

below_size : (z : ℕ) → 53 ≤ z → 52 + (z - 53) < z
below_size z h = omega arith

-- a unit of the last place is small beside the value
last_place : (n c : ℕ) → 0 < c → 53 ≤ size (n / c) → 2 ^ 52 * (c * 2 ^ drop 53 n c) ≤ n
last_place n c C h =
    let k = drop 53 n c in
    le_trans (le_of_eq (mul_left_comm (2 ^ 52) c (2 ^ k) ∙ mul_comm c (2 ^ 52 * 2 ^ k) ∙ ap (λ (x : ℕ). x * c) (sym (pow-add 2 52 k))))
    ((le-div_iff_mul-le C).0 (size_reaches (n / c) (52 + k) (below_size (size (n / c)) h)))

over : (x n u : ℕ) → x * 2 ≤ n * 2 + u → 2 ^ 52 * u ≤ n → x * M ≤ n * (M + 1)
over x n u a b = omega arith

-- 1 + 1 / M is below M / N
wider : (x n : ℕ) → x * M ≤ n * (M + 1) → x * N ≤ n * M
wider x n a = omega arith

bound_up : (x n u : ℕ) → x * 2 ≤ n * 2 + u → 2 ^ 52 * u ≤ n → x * N ≤ n * M
bound_up x n u a b = wider x n (over x n u a b)

bound_down : (x n u : ℕ) → n * 2 ≤ x * 2 + u → 2 ^ 52 * u ≤ n → n * N ≤ x * M
bound_down x n u a b = omega arith

grid_close : (a c : ℕ) → 0 < c → 53 ≤ size (a * P / c) → Close N M 1 (grid binary64 a c * c) (a * P)
grid_close a c C h =
    let n = a * P in
    let k = drop 53 n c in
    let u = c * 2 ^ k in
    let q = kept 53 n c in
    let e : q * u ≡ q * 2 ^ k * c = ap (λ (x : ℕ). q * x) (mul_comm c (2 ^ k)) ∙ sym (mul_assoc q (2 ^ k) c) in
    let (over, under) = closest_half n u (mul-pos C (pow_pos k)) in
    let l = last_place n c C h in
    subst (λ (x : ℕ). Close N M 1 x n) e
    (upto_one N M (q * u) n (bound_up (q * u) n u over l), upto_one N M n (q * u) (bound_down (q * u) n u under l))

-- ---- a / c rounded is g units

abbrev pub Rounded : ℕ → ℕ → ℕ → Type 0
Rounded a c g = Is (round binary64 false a c) g × Close N M 1 (g * c) (a * P)

twice_over : (x n : ℕ) → x * N ≤ n * M → x ≤ n * 2
twice_over x n h = omega arith

-- no overflow as long as the exact value is below half of where it begins
under_overflow : (g n c : ℕ) → g * c ≤ n * 2 → n < 2 ^ 2097 * c → g < 2 ^ 2098
under_overflow g n c h l =
    lt_of_mul-lt-mul_right c
    (lt_of_le_of_lt h (lt_of_lt_of_le (mul-lt-mul_of_pos_right l (lit< tt)) (le_of_eq (mul_right_comm (2 ^ 2097) c 2))))

pub rounded_normal : (a c : ℕ) → 0 < c → 2 ^ 52 * c ≤ a * P → a * P < 2 ^ 2097 * c → Rounded a c (grid binary64 a c)
rounded_normal a c C lo hi =
    let g = grid binary64 a c in
    let cl = grid_close a c C (normal_of_fraction binary64 a c C lo) in
    (round_val binary64 a c (under_overflow g (a * P) c (twice_over (g * c) (a * P) cl.0) hi), cl)

-- ---- where nothing is rounded

rescale : (x : Float) (s : Bool) (w l a c : ℕ) → 0 < l → a * l ≡ w * c → HasValue x s w l → HasValue x s a c
rescale nan s w l a c p h v = v
rescale (inf t) s w l a c p h v = v
rescale (fin t m e) s w l a c p h v = (
  v.0,
  eq_of_mul-eq-mul_right l p (m * up e * c) (a * down e)
      (mul_right_comm (m * up e) c l
      ∙ ap (λ (x : ℕ). x * c) v.1
      ∙ mul_right_comm w (down e) c
      ∙ ap (λ (x : ℕ). x * down e) (sym h)
      ∙ mul_right_comm a l (down e)),
)

pub rounded_exact : (a c x : ℕ) → 0 < c → x < 2 ^ 53 → a * P ≡ x * c → Rounded a c x
rounded_exact a c x C l e = (
  rescale (round binary64 false a c) false a c x P C (sym e)
      (round_exact binary64 false a c x 0 C l (lt_of_le_of_lt (le_of_eq (mul-one x)) (lt_of_lt_of_le l (lit≤ tt)))
      (e ∙ ap (λ (y : ℕ). y * c) (sym (mul-one x)))),
  close_eq N M 1 (x * c) (a * P) N≤M (sym e),
)
