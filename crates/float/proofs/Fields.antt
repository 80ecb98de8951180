-- The value that a bit pattern with no sign stands for, by its exponent's field and its digits. Assumes nothing.
use Prim.Native.Nat.{ℕ, suc, ◌+◌, ◌*◌, ◌/◌, ◌%◌, ◌^◌, ◌<◌}
use mathlib.Core.Path.{◌≡◌, refl, sym, ap, ◌∙◌, subst}
use mathlib.Core.Bool.{Bool, false, cond}
use native.Mathlib.Nat.{mod-eq_of_lt, lt_irrefl}
use lib.Dec.{leb, eqb, eqb→eq, not_T}
use lib.Arith.{lt→nleb}
use lib.Ieee.{Float, nan, inf, Format, prec, low, hid, ones, top, odd, of_fields, of_bits}
use lib.Ieee.Exact.{HasValue, odd_sign}
use lib.Ieee.Bits.{is_false, cond_no}

of_bits_is : (f : Format) (b : ℕ) → of_bits f b ≡ of_fields f (leb (top f) b) (b % top f / hid f) (b % hid f)
unfolding of_bits
of_bits_is f b = refl

pub plain_fields : (f : Format) (b : ℕ) → b < top f → of_bits f b ≡ of_fields f false (b / hid f) (b % hid f)
plain_fields f b h =
    of_bits_is f b
    ∙ ap (λ (s : Bool). of_fields f s (b % top f / hid f) (b % hid f)) (is_false (leb (top f) b) (lt→nleb (top f) b h))
    ∙ ap (λ (x : ℕ). of_fields f false (x / hid f) (b % hid f)) (mod-eq_of_lt h)

pub low_value : (f : Format) (s : Bool) (t : ℕ) → HasValue (of_fields f s 0 t) s (t * 2 ^ 0) (2 ^ low f)
unfolding of_fields
low_value f s t = odd_sign (prec f) s t 0 (low f)

high_fields : (f : Format) (s : Bool) (x t : ℕ) → suc x < ones f → of_fields f s (suc x) t ≡ odd (prec f) s (hid f + t) x (low f)
unfolding of_fields
high_fields f s x t h =
    let below = not_T (eqb (suc x) (ones f)) (λ k. lt_irrefl (ones f) (subst (λ (y : ℕ). y < ones f) (eqb→eq (suc x) (ones f) k) h)) in
    cond_no (eqb (suc x) (ones f)) (cond (eqb t 0) (inf s) nan) (odd (prec f) s (hid f + t) x (low f)) below

pub high_value : (f : Format) (s : Bool) (x t : ℕ) → suc x < ones f → HasValue (of_fields f s (suc x) t) s ((hid f + t) * 2 ^ x) (2 ^ low f)
high_value f s x t h = subst (λ (v : Float). HasValue v s ((hid f + t) * 2 ^ x) (2 ^ low f)) (sym (high_fields f s x t h)) (odd_sign (prec f) s (hid f + t) x (low f))
