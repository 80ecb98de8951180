-- What it is to be below 0, above 0 and equal to 0, by the cases of a float. Assumes nothing.
use Prim.Native.Nat.{ℕ, zero, suc, ◌+◌, ◌*◌, ◌<◌}
use native.Mathlib.Nat.{mul-pos, zero-lt-suc, zero-mul}
use native.Mathlib.Omega.{arith}
use mathlib.Core.Path.{◌≡◌, refl, ap, ◌∙◌}
use mathlib.Core.Bool.{Bool, true, false, not, beq, ◌||◌}
use borrow.Author.Tests.{lt-ltb, le-ltb, eq-eqb, ne_eqb}
use lib.IntN.{ℤ, pos}
use lib.Dec.{eqb}
use lib.Ieee.{Float, nan, inf, fin, up, down, lt, eq, div, of_bits}
use lib.Ieee.Fits.{up_pos}
use Rattle.float.specs.Float.{#0, ◌⊘◌, is_finite}

-- ---- the numbers that the code writes out

pub zero_is : #0 ≡ fin false 0 (pos 0)
unfolding of_bits
zero_is = refl

pub zero_finite : is_finite #0 ≡ true
unfolding is_finite of_bits
zero_finite = refl

pub nan_is : #0 ⊘ #0 ≡ nan
unfolding div of_bits
nan_is = refl

-- ---- the tests

abbrev pub negative : Float → Bool
negative nan = false
negative (inf s) = s
negative (fin s zero e) = false
negative (fin s (suc m) e) = s

abbrev pub positive : Float → Bool
positive nan = false
positive (inf s) = not s
positive (fin s zero e) = false
positive (fin s (suc m) e) = not s

abbrev pub is_zero : Float → Bool
is_zero nan = false
is_zero (inf s) = false
is_zero (fin s zero e) = true
is_zero (fin s (suc m) e) = false

above : (m : ℕ) (e : ℤ) → 0 < suc m * up e * 1
above m e = mul-pos (mul-pos (zero-lt-suc m) (up_pos e)) (zero-lt-suc 0)

none : (d : ℕ) → 0 * 1 * d ≡ 0
none d = zero-mul d

below : (x : Float) → lt x (fin false 0 (pos 0)) ≡ negative x
unfolding lt
below nan = refl
below (inf s) = refl
below (fin true zero e) = le-ltb 0 (0 * up e * 1 + 0 * 1 * down e) (let a = zero-mul (up e) in let b = none (down e) in omega arith)
below (fin false zero e) = le-ltb (0 * up e * 1) (0 * 1 * down e) (let b = none (down e) in omega arith)
below (fin true (suc m) e) = lt-ltb 0 (suc m * up e * 1 + 0 * 1 * down e) (let a = above m e in omega arith)
below (fin false (suc m) e) = le-ltb (suc m * up e * 1) (0 * 1 * down e) (let b = none (down e) in omega arith)

pub lt-zero : (x : Float) → lt x #0 ≡ negative x
lt-zero x = ap (lt x) zero_is ∙ below x

over : (x : Float) → lt (fin false 0 (pos 0)) x ≡ positive x
unfolding lt
over nan = refl
over (inf s) = refl
over (fin true zero e) = refl
over (fin true (suc m) e) = refl
over (fin false zero e) = le-ltb (0 * 1 * down e) (0 * up e * 1) (let a = zero-mul (up e) in omega arith)
over (fin false (suc m) e) = lt-ltb (0 * 1 * down e) (suc m * up e * 1) (let a = above m e in let b = none (down e) in omega arith)

pub zero-lt : (x : Float) → lt #0 x ≡ positive x
zero-lt x = ap (λ z. lt z x) zero_is ∙ over x

or_true : (b : Bool) → (b || true) ≡ true
or_true true = refl
or_true false = refl

equal : (x : Float) → eq x (fin false 0 (pos 0)) ≡ is_zero x
unfolding eq
equal nan = refl
equal (inf s) = refl
equal (fin s zero e) =
    let a : eqb (0 * up e * 1) (0 * 1 * down e) ≡ true = eq-eqb (0 * up e * 1) (0 * 1 * down e) (let x = zero-mul (up e) in let y = none (down e) in omega arith) in
    let b : eqb (0 * up e * 1) 0 ≡ true = eq-eqb (0 * up e * 1) 0 (let x = zero-mul (up e) in omega arith) in
    rw (a, b) (or_true (beq s false))
equal (fin s (suc m) e) =
    let a : eqb (suc m * up e * 1) (0 * 1 * down e) ≡ false = ne_eqb (suc m * up e * 1) (0 * 1 * down e) (λ h. let x = above m e in let y = none (down e) in omega arith) in
    rw a

pub eq-zero : (x : Float) → eq x #0 ≡ is_zero x
eq-zero x = ap (eq x) zero_is ∙ equal x
