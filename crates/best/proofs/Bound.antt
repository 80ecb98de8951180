-- The computed chi-square of n ≤ 1024 stars is within n + 2 roundings of the exact one. Assumes nothing.
use mathlib.Core.Path.{◌≡◌, refl, sym, subst}
use Prim.Native.Nat.{ℕ, zero, suc, ◌+◌, ◌*◌, ◌^◌, ◌≤◌, ◌<◌, zero-le}
use native.Mathlib.Nat.{le_refl, le_trans, le_of_eq, le-suc, le_step, lt_of_le_of_lt, one-mul, add-mul, suc-mul, mul-le-mul_left, mul-le-mul_right, add-le-add, lt_of_mul-lt-mul_right}
use native.Mathlib.Omega.{arith}
use lib.Dec.{lit≤, lit<}
use lib.Ieee.{Float}
use Rattle.float.specs.Float.{#0, ◌⊕◌, ◌⊗◌}
use Rattle.float.proofs.Zero.{zero_is}
use Rattle.sequence.specs.Sequence.{sum_to}
use Rattle.best.specs.ChiSquare.{chi, units_of, exact, TameValue, AllTameValues}
use Rattle.best.proofs.Close.{Close, Upto, upto_more, upto_at_most, close_trans, close_more, close_add, close_eq}
use Rattle.best.proofs.Rounding.{P, N, M, N≤M}
use Rattle.best.proofs.Operations.{Within, sum_within}
use Rattle.best.proofs.Residuals.{square_of, square_le}

-- ---- one addition

-- 1026 roundings at most double a number
doubled : (k x y : ℕ) → k ≤ 1026 → Upto N M k x y → x ≤ 2 * y
doubled k x y l h =
    le_trans (le_of_eq (sym (one-mul x))) (upto_at_most N M 1026 x y 2 1 (lit< tt) (lit≤ tt) (upto_more N M k 1026 x y N≤M l h))

room : (z s b : ℕ) → z * P ≤ 2 * s → s ≤ b → 2 * b < 2 ^ 2097 * P → z < 2 ^ 2097
room z s b h l g = lt_of_mul-lt-mul_right P (lt_of_le_of_lt h (lt_of_le_of_lt (mul-le-mul_left 2 l) g))

-- of two numbers, each within k roundings of an exact one
added : (x y : Float) (k s r b : ℕ) → k ≤ 1026 → s + r ≤ b → 2 * b < 2 ^ 2097 * P → Within x k s → Within y k r
    → Within (x ⊕ y) (1 + k) (s + r)
added x y k s r b K B G (t, v, c) (p, w, e) =
    let both : Close N M k ((t + p) * P) (s + r) =
    subst (λ (z : ℕ). Close N M k z (s + r)) (sym (add-mul t p P)) (close_add N M k (t * P) s (p * P) r c e) in
    let (g, i, a) = sum_within x y t p v w (room (t + p) (s + r) b (doubled k ((t + p) * P) (s + r) K both.0) B G) in
    (g, i, close_trans N M 1 k (g * P) ((t + p) * P) (s + r) a both)

within_more : (x : Float) (j k s : ℕ) → j ≤ k → Within x j s → Within x k s
within_more x j k s l (t, v, c) = (t, v, close_more N M j k (t * P) s N≤M l c)

-- ---- one star

abbrev pair_of : Float → Float → ℕ
pair_of x y = units_of x * units_of x + units_of y * units_of y

pair-le : (x y : Float) → TameValue x → TameValue y → pair_of x y ≤ 2 ^ 2949
pair-le x y f g = le_trans (add-le-add (square_le x f) (square_le y g)) (lit≤ {m = 2 ^ 2948 + 2 ^ 2948} {n = 2 ^ 2949} tt)

pair_within : (x y : Float) → TameValue x → TameValue y → Within (x ⊗ x ⊕ y ⊗ y) 2 (pair_of x y)
pair_within x y f g =
    added (x ⊗ x) (y ⊗ y) 1 (units_of x * units_of x) (units_of y * units_of y) (2 ^ 2949) (lit≤ tt) (pair-le x y f g) (lit< tt)
    (square_of x f) (square_of y g)

-- ---- n stars

pub fewer : (h d : ℕ → Float) (n : ℕ) → AllTameValues h d (suc n) → AllTameValues h d n
fewer h d n f i l = f i (le_step l)

exact-le : (h d : ℕ → Float) (n : ℕ) → AllTameValues h d n → exact h d n ≤ n * 2 ^ 2949
unfolding exact
exact-le h d zero f = zero-le
exact-le h d (suc n) f =
    let (x, y) = f n (le_refl (suc n)) in
    le_trans (add-le-add (exact-le h d n (fewer h d n f)) (pair-le (h n) (d n) x y)) (le_of_eq (sym (suc-mul n (2 ^ 2949))))

exact_top : (h d : ℕ → Float) (n : ℕ) → n ≤ 1024 → AllTameValues h d n → exact h d n ≤ 2 ^ 2959
exact_top h d n l f = le_trans (exact-le h d n f) (mul-le-mul_right (2 ^ 2949) l)

two_more : (n : ℕ) → 2 ≤ n + 2
two_more n = omega arith

one_more : (n : ℕ) → 1 + (n + 2) ≡ suc n + 2
one_more n = omega arith

pub enough : (n : ℕ) → n ≤ 1024 → n + 2 ≤ 1026
enough n h = omega arith

none : (k : ℕ) → Within #0 k 0
none k = subst (λ (z : Float). Within z k 0) (sym zero_is) (0, (refl, refl), close_eq N M k (0 * P) 0 N≤M refl)

pub chi_within : (h d : ℕ → Float) (n : ℕ) → n ≤ 1024 → AllTameValues h d n → Within (chi h d n) (n + 2) (exact h d n)
unfolding chi sum_to exact
chi_within h d zero l f = none 2
chi_within h d (suc n) l f =
    let (x, y) = f n (le_refl (suc n)) in
    let m = le_trans (le-suc n) l in
    let r = h n ⊗ h n ⊕ d n ⊗ d n in
    let p = pair_of (h n) (d n) in
    subst (λ (k : ℕ). Within (chi h d (suc n)) k (exact h d (suc n))) (one_more n)
    (added (chi h d n) r (n + 2) (exact h d n) p (2 ^ 2959) (enough n m) (exact_top h d (suc n) l f) (lit< tt)
    (chi_within h d n m (fewer h d n f))
    (within_more r 2 (n + 2) p (two_more n) (pair_within (h n) (d n) x y)))
