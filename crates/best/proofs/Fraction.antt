-- The exact chi-square in units is the sum of the fractions, and the comparison holds of these. Assumes nothing.
use mathlib.Core.Path.{◌≡◌, refl}
use Prim.Native.Nat.{ℕ, zero, suc, ◌+◌, ◌*◌, ◌^◌, ◌≤◌, ◌<◌}
use native.Mathlib.Nat.{le_refl, mul-pos, zero-lt-suc}
use mathlib.Core.Bool.{not}
use lib.Dec.{T}
use lib.Pow.{pow_pos}
use lib.Ieee.{Float, nan, inf, fin, lt}
use lib.Ieee.Digits.{Equals}
use lib.Ieee.Positive.{num, den, den_pos}
use Rattle.best.specs.ChiSquare.{chi, units_of, exact, Frac, add_frac, squared, exact_sum, Ratio, TameValue, AllTameValues, parts, AtMost}
use Rattle.best.proofs.Ratios as Ratios
use Rattle.best.proofs.Rounding.{P}
use Rattle.best.proofs.Residuals.{units_of_lem}
use Rattle.best.proofs.Bound.{fewer}
use Rattle.best.proofs.Compare.{exact_of_not_lt}

plus_is : (a b : Frac) (u v q : ℕ) → Ratio a u q → Ratio b v q → Ratio (add_frac a b) (u + v) q
plus_is a b u v q h k = (mul-pos h.0 k.0, Ratios.sum a.over b.over a.under b.under u v q h.1 k.1)

num_units : (x : Float) (u : ℕ) → Equals x u P → num x * P ≡ u * den x
num_units nan u h = absurd h
num_units (inf s) u h = absurd h
num_units (fin s m e) u h = h

squared_is : (x : Float) → TameValue x → Ratio (squared x) (units_of x * units_of x) (2 ^ 2148)
squared_is x f =
    (mul-pos (den_pos x) (den_pos x), Ratios.square (num x) (den x) (units_of x) P (num_units x (units_of x) (units_of_lem x f)))

pub exact_is_sum : (h d : ℕ → Float) (n : ℕ) → AllTameValues h d n → Ratio (exact_sum h d n) (exact h d n) (2 ^ 2148)
unfolding exact_sum exact
exact_is_sum h d zero f = (zero-lt-suc 0, refl)
exact_is_sum h d (suc n) f =
    let (x, y) = f n (le_refl (suc n)) in
    let u = units_of (h n) * units_of (h n) in
    let v = units_of (d n) * units_of (d n) in
    plus_is (exact_sum h d n) (add_frac (squared (h n)) (squared (d n))) (exact h d n) (u + v) (2 ^ 2148) (exact_is_sum h d n (fewer h d n f))
    (plus_is (squared (h n)) (squared (d n)) u v (2 ^ 2148) (squared_is (h n) x) (squared_is (d n) y))

-- the order of fractions by their units
at_most : (a b : Frac) (u v q : ℕ) → 0 < q → Ratio a u q → Ratio b v q → parts * u ≤ (parts + 1) * v → AtMost a b
at_most a b u v q Q h k l =
    Ratios.order (a.over * b.under) (b.over * a.under) (a.under * b.under) u v q parts (parts + 1) Q
    (Ratios.left a.over a.under b.under u q h.1) (Ratios.right b.over a.under b.under v q k.1) l

pub fraction_of_not_lt : (h d h' d' : ℕ → Float) (n : ℕ) → n ≤ 1024 → AllTameValues h d n → AllTameValues h' d' n
    → T (not (lt (chi h' d' n) (chi h d n))) → AtMost (exact_sum h d n) (exact_sum h' d' n)
fraction_of_not_lt h d h' d' n l f g t =
    at_most (exact_sum h d n) (exact_sum h' d' n) (exact h d n) (exact h' d' n) (2 ^ 2148) (pow_pos 2148)
    (exact_is_sum h d n f) (exact_is_sum h' d' n g) (exact_of_not_lt h d h' d' n l f g t)
