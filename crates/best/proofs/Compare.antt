-- Where the computed chi-square of one list of residuals is not above that of another, its exact chi-square is at most 1 + 2 ^ -41 times
-- the other's. Assumes nothing.
use mathlib.Core.Path.{◌≡◌, sym}
use Prim.Native.Nat.{ℕ, ◌+◌, ◌*◌, ◌≤◌, ◌<◌}
use native.Mathlib.Nat.{mul-le-mul_right, le_of_mul-le-mul_right}
use mathlib.Core.Bool.{true, false, not, true≢false}
use lib.Dec.{T, nltb→le, lit≤, lit<}
use lib.Ieee.{Float, nan, inf, fin, up, down, lt}
use lib.Ieee.Fits.{down_pos}
use lib.Ieee.Order.{transfer}
use Rattle.best.specs.ChiSquare.{chi, exact, AllTameValues, parts}
use Rattle.best.proofs.Close.{Upto, upto_trans, upto_more, upto_le, upto_at_most}
use Rattle.best.proofs.Rounding.{P, N, M, P_pos, N≤M, Is}
use Rattle.best.proofs.Bound.{enough, chi_within}

-- ---- the order of values is that of their sizes in units

-- m / c is a units and n / k is b units
units_le : (m n c k a b : ℕ) → 0 < c → 0 < k → m * P ≡ a * c → n * P ≡ b * k → m * k ≤ n * c → a ≤ b
units_le m n c k a b C K e f h = le_of_mul-le-mul_right (transfer a b P P m n c k C K (sym e) (sym f) h) P_pos

not_lt→units : (x y : Float) (a b : ℕ) → Is x a → Is y b → T (not (lt y x)) → a ≤ b
unfolding lt
not_lt→units nan y a b h k t = absurd h
not_lt→units (inf s) y a b h k t = absurd h
not_lt→units (fin true m e) y a b h k t = absurd (true≢false h.0)
not_lt→units (fin false m e) nan a b h k t = absurd k
not_lt→units (fin false m e) (inf s) a b h k t = absurd k
not_lt→units (fin false m e) (fin true n d) a b h k t = absurd (true≢false k.0)
not_lt→units (fin false m e) (fin false n d) a b h k t =
    units_le (m * up e) (n * up d) (down e) (down d) a b (down_pos e) (down_pos d) h.1 k.1
    (nltb→le (n * up d * down e) (m * up e * down d) t)

-- ---- up to the bound

-- 2052 roundings change a number by less than one part in 2 ^ 41
slack : (x y : ℕ) → Upto N M 2052 x y → parts * x ≤ (parts + 1) * y
slack x y h = upto_at_most N M 2052 x y (parts + 1) parts (lit< tt) (lit≤ tt) h

pub exact_of_not_lt : (h d h' d' : ℕ → Float) (n : ℕ) → n ≤ 1024 → AllTameValues h d n → AllTameValues h' d' n
    → T (not (lt (chi h' d' n) (chi h d n))) → parts * exact h d n ≤ (parts + 1) * exact h' d' n
exact_of_not_lt h d h' d' n l f g t =
    let (a, v, p) = chi_within h d n l f in
    let (b, w, q) = chi_within h' d' n l g in
    let x = exact h d n in
    let y = exact h' d' n in
    let a≤b : a ≤ b = not_lt→units (chi h d n) (chi h' d' n) a b v w t in
    slack x y
    (upto_trans N M 1026 1026 x (b * P) y
    (upto_trans N M 1026 0 x (a * P) (b * P)
    (upto_more N M (n + 2) 1026 x (a * P) N≤M (enough n l) p.1) (upto_le N M 0 (a * P) (b * P) N≤M (mul-le-mul_right P a≤b)))
    (upto_more N M (n + 2) 1026 (b * P) y N≤M (enough n l) q.0))
