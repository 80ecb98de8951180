-- `float::from_bits` meets its contract. Assumes nothing.
use Prim.Native.Nat.{ℕ, ◌*◌, ◌%◌, ◌^◌, ◌≤◌, ◌<◌}
use mathlib.Core.Path.{◌≡◌, refl, sym, ◌∙◌, subst}
use mathlib.Core.Bool.{not}
use borrow.Author.Tests.{lt-ltb}
use lib.Dec.{T}
use lib.Arith.{le→nltb}
use lib.Ieee.{nan, binary64, of_bits, nan_bits}
use lib.Ieee.Bits.{nan_bits_is, nan_bits_above}
use Rattle.float.proofs.Bits.{nan_alone}
use Rattle.float.proofs.from_bits.Goals as goal

written_is : of_bits binary64 0x7ff8_0000_0000_0000 ≡ nan
unfolding of_bits
written_is = refl

above : (b : ℕ) → 2047 * 2 ^ 52 < b % 2 ^ 63 → nan ≡ of_bits binary64 b
above b h = nan_alone (of_bits binary64 b) (sym (nan_bits_is binary64 b) ∙ nan_bits_above binary64 b ∙ lt-ltb (2047 * 2 ^ 52) (b % 2 ^ 63) h)

not_above : (b : ℕ) → b % 2 ^ 63 ≤ 2047 * 2 ^ 52 → T (not (nan_bits binary64 b))
not_above b h = subst (λ v. T (not v)) (sym (nan_bits_above binary64 b)) (le→nltb (2047 * 2 ^ 52) (b % 2 ^ 63) h)

pub returns-then-bits-gt9218868437227405312 : goal.returns-then-bits-gt9218868437227405312
returns-then-bits-gt9218868437227405312 c = written_is ∙ above c.args.bits c.if-bits-gt9218868437227405312.true

pub float_from_bits-result : goal.float_from_bits-result
float_from_bits-result c = not_above c.args.bits c.if-bits-gt9218868437227405312.false
