-- A float that equals 1 is 1, and its root is 1. Assumes nothing.
use Prim.Native.Nat.{ℕ, zero, suc, ◌*◌, ◌%◌, ◌^◌, ◌<◌}
use native.Mathlib.Nat.{zero-mul}
use native.Mathlib.Omega.{arith}
use mathlib.Core.Path.{◌≡◌, refl, sym, ap, ◌∙◌}
use mathlib.Core.Bool.{Bool, true, false, ◌&&◌, ◌||◌, beq, false≢true}
use lib.IntN.{ℤ, pos, negsuc}
use lib.Dec.{T, eqb, leb, ltb, eqb→eq}
use lib.Ieee.{Float, nan, inf, fin, binary64, up, down, level, eq, div, of_bits, fits}
use lib.Ieee.Fits.{and_l, down_pos}
use Rattle.float.specs.Float.{#1, ◌⊘◌}
use Rattle.sqrt.specs.Sqrt.{sqrt}

one_is : #1 ≡ fin false 1 (pos 0)
unfolding of_bits
one_is = refl

pub one_over_root : #1 ⊘ sqrt binary64 #1 ≡ #1
unfolding div sqrt of_bits
one_over_root = refl

split : (a b : Bool) → (a && b) ≡ true → T a × T b
split true true h = (tt, tt)
split true false h = absurd (false≢true h)
split false b h = absurd (false≢true h)

-- a significand is odd
odd_one : (s : Bool) (m : ℕ) (e : ℤ) → T (fits binary64 (fin s (suc m) e)) → suc m % 2 ≡ 1
unfolding fits
odd_one s m e t =
    let A = eqb (suc m % 2) 1 in
    let B = ltb (suc m) (2 ^ 53) in
    let C = leb (down e) (2 ^ 1074) in
    let D = ltb (suc m * up e) (2 ^ 1024 * down e) in
    eqb→eq (suc m % 2) 1 (and_l A B (and_l (A && B) C (and_l (A && B && C) D t)))

plus : (s : Bool) (a : ℕ) → 0 < a → T (beq s false || eqb a 0) → s ≡ false
plus false a h t = refl
plus true a h t = let e : a ≡ 0 = eqb→eq a 0 t in absurd (omega arith)

-- what it is for ±a to equal b
same : (s : Bool) (a b : ℕ) → level s a false b ≡ true → (a ≡ b) × (0 < a → s ≡ false)
same s a b h =
    let t = split (eqb a b) (beq s false || eqb a 0) h in
    (eqb→eq a b t.0, λ p. plus s a p t.1)

even_one : (a b c : ℕ) → b ≡ 2 * c → a * b ≡ 1 → ⊥
even_one a b c e h =
    let g : a * b ≡ 2 * (a * c) = ap (λ (x : ℕ). a * x) e ∙ omega arith in
    omega arith

one : (x : Float) → T (fits binary64 x) → eq x (fin false 1 (pos 0)) ≡ true → x ≡ fin false 1 (pos 0)
unfolding eq
one nan t h = absurd (false≢true h)
one (inf s) t h = absurd (false≢true h)
one (fin s zero e) t h =
    let v = (same s (0 * up e * 1) (1 * 1 * down e) h).0 in
    let z = zero-mul (up e) in
    let p = down_pos e in
    absurd (omega arith)
one (fin s (suc m) (negsuc k)) t h =
    let v : suc m * 1 * 1 ≡ 1 * 1 * 2 ^ suc k = (same s (suc m * 1 * 1) (1 * 1 * 2 ^ suc k) h).0 in
    let o = odd_one s m (negsuc k) t in
    absurd (omega arith)
one (fin s (suc m) (pos (suc k))) t h =
    let v : suc m * 2 ^ suc k * 1 ≡ 1 * 1 * 1 = (same s (suc m * 2 ^ suc k * 1) (1 * 1 * 1) h).0 in
    absurd (even_one (suc m) (2 ^ suc k) (2 ^ k) (omega arith) (omega arith))
one (fin s (suc m) (pos zero)) t h =
    let v = same s (suc m * 1 * 1) (1 * 1 * 1) h in
    let w : m ≡ 0 = omega (arith, v.0) in
    let u : s ≡ false = v.1 (omega arith) in
    rw (u, w)

pub is_one : (x : Float) → T (fits binary64 x) → eq x #1 ≡ true → x ≡ #1
is_one x t h = one x t (ap (eq x) (sym one_is) ∙ h) ∙ sym one_is
