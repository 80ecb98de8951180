-- `float::to_bits` meets its contract. Assumes nothing.
use Rattle.std.proofs.Common.{◌≡◌, refl, sym, ap, ◌∙◌}
use Rattle.std.specs.Float.{nan, binary64}
use Rattle.std.specs.Float.Ieee.{to_bits}
use Rattle.float.proofs.Bits.{nan_alone}
use Rattle.float.proofs.to_bits.Goals as goal

bits_of_nan : 0x7ff8_0000_0000_0000 ≡ to_bits binary64 nan
unfolding to_bits
bits_of_nan = refl

pub returns-then-is_nan : goal.returns-then-is_nan
returns-then-is_nan c = bits_of_nan ∙ ap (to_bits binary64) (nan_alone _ (sym (c.if-is_nan.ensures).value))
