-- The square of a value, and the sum of two that aren't negative: each within one rounding of the exact result. Assumes nothing.
use mathlib.Core.Path.{◌≡◌, refl, sym, ap, subst}
use mathlib.Core.Logic.{◌⊎◌, inl, inr}
use Prim.Native.Nat.{ℕ, ◌+◌, ◌*◌, ◌^◌, ◌≤◌, ◌<◌}
use native.Mathlib.Nat.{le_trans, lt_of_le_of_lt, mul_assoc, mul-le-mul_right, mul-le-mul, mul-pos, mul-lt-mul_of_pos_right}
use native.Mathlib.Omega.{arith}
use mathlib.Core.Bool.{Bool, true, false, not, true≢false}
use lib.IntN.{ℤ}
use lib.Dec.{T, ltb, ltb→lt, nltb→le, lit≤, lit<}
use lib.Ieee.{Float, nan, inf, fin, binary64, up, down, round, add, mul}
use lib.Ieee.Digits.{Equals}
use lib.Ieee.Fits.{down_pos}
use lib.Ieee.Scale.{grid, round_same}
use Rattle.float.specs.Float.{◌⊕◌, ◌⊗◌}
use Rattle.best.proofs.Ratios as Ratios
use Rattle.best.proofs.Close.{Close, close_unscale}
use Rattle.best.proofs.Rounding.{P, N, M, P_pos, Is, Rounded, rounded_normal, rounded_exact}

-- x is finite, not negative, and within k roundings of s units of 2 ^ -2148
abbrev pub Within : Float → ℕ → ℕ → Type 0
Within x k s = (g : ℕ) × Is x g × Close N M k (g * P) s

-- ---- the square

squares : (m : ℕ) (e : ℤ) (u : ℕ) → m * up e * P ≡ u * down e
    → round binary64 false (m * up e * (m * up e)) (down e * down e) ≡ round binary64 false (u * u) (P * P)
squares m e u h =
    round_same binary64 false (m * up e * (m * up e)) (down e * down e) (u * u) (P * P) (mul-pos (down_pos e) (down_pos e)) (mul-pos P_pos P_pos)
    (Ratios.square (m * up e) (down e) u P h)

square_is : (r : Float) (u : ℕ) → Equals r u P → r ⊗ r ≡ round binary64 false (u * u) (P * P)
unfolding mul
square_is nan u h = absurd h
square_is (inf s) u h = absurd h
square_is (fin true m e) u h = squares m e u h
square_is (fin false m e) u h = squares m e u h

square_normal : (u : ℕ) → 2 ^ 674 ≤ u → u ≤ 2 ^ 1474 → Rounded (u * u) (P * P) (grid binary64 (u * u) (P * P))
square_normal u lo hi =
    rounded_normal (u * u) (P * P) (mul-pos P_pos P_pos)
    (le_trans (lit≤ {m = 2 ^ 52 * (P * P)} {n = 2 ^ 674 * 2 ^ 674 * P} tt) (mul-le-mul_right P (mul-le-mul lo lo)))
    (lt_of_le_of_lt (mul-le-mul_right P (mul-le-mul hi hi)) (lit< {m = 2 ^ 1474 * 2 ^ 1474 * P} {n = 2 ^ 2097 * (P * P)} tt))

square_rounded : (u : ℕ) → (u ≡ 0) ⊎ (2 ^ 674 ≤ u) → u ≤ 2 ^ 1474 → (g : ℕ) × Rounded (u * u) (P * P) g
square_rounded u (inl z) hi = (0, rounded_exact (u * u) (P * P) 0 (mul-pos P_pos P_pos) (lit< tt) (ap (λ (x : ℕ). x * x * P) z))
square_rounded u (inr lo) hi = (grid binary64 (u * u) (P * P), square_normal u lo hi)

pub square_within : (r : Float) (u : ℕ) → Equals r u P → (u ≡ 0) ⊎ (2 ^ 674 ≤ u) → u ≤ 2 ^ 1474 → Within (r ⊗ r) 1 (u * u)
square_within r u h lo hi =
    let (g, (v, c)) = square_rounded u lo hi in (
      g,
      subst (λ (x : Float). Is x g) (sym (square_is r u h)) v,
      close_unscale N M 1 (g * P) (u * u) P P_pos (subst (λ (x : ℕ). Close N M 1 x (u * u * P)) (sym (mul_assoc g P P)) c),
    )

-- ---- the sum

sum_is : (x y : Float) (a b : ℕ) → Is x a → Is y b → x ⊕ y ≡ round binary64 false (a + b) P
unfolding add
sum_is nan y a b h k = absurd h
sum_is (inf s) y a b h k = absurd h
sum_is (fin true m e) y a b h k = absurd (true≢false h.0)
sum_is (fin false m e) nan a b h k = absurd k
sum_is (fin false m e) (inf t) a b h k = absurd k
sum_is (fin false m e) (fin true n d) a b h k = absurd (true≢false k.0)
sum_is (fin false m e) (fin false n d) a b h k =
    round_same binary64 false (m * up e * down d + n * up d * down e) (down e * down d) (a + b) P (mul-pos (down_pos e) (down_pos d)) P_pos
    (Ratios.sum (m * up e) (n * up d) (down e) (down d) a b P h.1 k.1)

sum_rounded : (x : ℕ) → x < 2 ^ 2097 → (g : ℕ) × Rounded x P g
sum_rounded x hi = go (ltb x (2 ^ 53)) (ltb→lt x (2 ^ 53)) (nltb→le x (2 ^ 53))
  where
    half : (x : ℕ) → 2 ^ 53 ≤ x → 2 ^ 52 ≤ x
    half x h = omega arith

    go : (b : Bool) → (T b → x < 2 ^ 53) → (T (not b) → 2 ^ 53 ≤ x) → (g : ℕ) × Rounded x P g
    go true l k = (x, rounded_exact x P x P_pos (l tt) refl)
    go false l k = (grid binary64 x P, rounded_normal x P P_pos (mul-le-mul_right P (half x (k tt))) (mul-lt-mul_of_pos_right hi P_pos))

pub sum_within : (x y : Float) (a b : ℕ) → Is x a → Is y b → a + b < 2 ^ 2097 → Within (x ⊕ y) 1 ((a + b) * P)
sum_within x y a b h k l =
    let (g, (v, c)) = sum_rounded (a + b) l in
    (g, subst (λ (z : Float). Is z g) (sym (sum_is x y a b h k)) v, c)
