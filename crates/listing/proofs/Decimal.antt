-- The library's decimal digits of a number are those of specs/Text.antt, at most 20. Assumes nothing.
use Prim.Native.Nat.{ℕ, zero, suc, ◌+◌, ◌-◌, ◌/◌, ◌%◌, ◌^◌, ◌≤◌, ◌<◌}
use native.Mathlib.Omega.{arith}
use mathlib.Core.Path.{◌≡◌, refl, ap}
use mathlib.Core.Bool.{Bool, true, false, cond}
use mathlib.Core.List.{List, [], ◌∷◌, ◌++◌}
use borrow.Author.Tests.{lt-ltb, le-ltb, ltb-false}
use lib.Dec.{ltb}
use lib.ListN.{length}
use Rattle.std.specs.Fmt as Fmt
use Rattle.std.proofs.lemmas.Fmt.{decimal_by_steps, length-decimal-le}
use Rattle.listing.specs.Text.{digit, last_digits, decimal}

tenth : (v : ℕ) → 10 ≤ v → v / 10 < v
tenth v h = omega arith

-- enough digits are enough
enough : (a b v : ℕ) → v < a → v < b → last_digits a v ≡ last_digits b v
unfolding last_digits
enough zero b v p q = absurd (omega arith)
enough (suc a) zero v p q = absurd (omega arith)
enough (suc a) (suc b) v p q = by (ltb v 10) refl (λ h. let t = tenth v h in enough a b (v / 10) (omega arith) (omega arith))
  where
    by : (t : Bool) → ltb v 10 ≡ t → (10 ≤ v → last_digits a (v / 10) ≡ last_digits b (v / 10))
        → cond (ltb v 10) [] (last_digits a (v / 10)) ++ (digit (v % 10) ∷ []) ≡ cond (ltb v 10) [] (last_digits b (v / 10)) ++ (digit (v % 10) ∷ [])
    by true e f = rw e
    by false e f = rw (e, f (ltb-false v 10 e))

pub digit-small : (d : ℕ) → d < 10 → 48 + d ≡ digit d
unfolding digit
digit-small d h = rw (lt-ltb d 10 h)

pub digit_large : (d : ℕ) → 10 ≤ d → 97 + (d - 10) ≡ digit d
unfolding digit
digit_large d h = rw (le-ltb d 10 h)

one : (v : ℕ) → v < 10 → (48 + v) ∷ [] ≡ decimal v
unfolding decimal last_digits
one v h =
    let e : v % 10 ≡ v = omega arith in
    rw (lt-ltb v 10 h, e, digit-small v h)

more : (v : ℕ) (ds : List ℕ) → 10 ≤ v → ds ≡ decimal (v / 10) → ds ++ ((48 + v % 10) ∷ []) ≡ decimal v
unfolding decimal last_digits
more v ds h e = rw (e, le-ltb v 10 h, enough (suc (v / 10)) v (v / 10) (omega arith) (tenth v h), digit-small (v % 10) (omega arith))

pub written : (v : ℕ) → v < 2 ^ 64 → Fmt.decimal v ≡ decimal v
written v h = decimal_by_steps (λ n ds. ds ≡ decimal n) one more v h
