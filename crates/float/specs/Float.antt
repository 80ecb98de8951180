-- The binary64 operators, the numbers that several files write out, and two tests of a float. Definitions only.
use Rattle.std.specs.Prelude.{Bool, true, false, Float}
use Rattle.std.specs.Float.{nan, inf, fin, binary64}
use Rattle.std.specs.Float.Ieee.{add, sub, mul, div, of_bits}

infixl 30 ◌⊕◌
infixl 30 ◌⊖◌
infixl 40 ◌⊗◌
infixl 40 ◌⊘◌
abbrev pub ◌⊕◌ : Float → Float → Float
x ⊕ y = add binary64 x y

abbrev pub ◌⊖◌ : Float → Float → Float
x ⊖ y = sub binary64 x y

abbrev pub ◌⊗◌ : Float → Float → Float
x ⊗ y = mul binary64 x y

abbrev pub ◌⊘◌ : Float → Float → Float
x ⊘ y = div binary64 x y

-- literals, by their bits
abbrev pub #0 : Float
#0 = of_bits binary64 0

abbrev pub #1 : Float
#1 = of_bits binary64 0x3ff0_0000_0000_0000

abbrev pub #2 : Float
#2 = of_bits binary64 0x4000_0000_0000_0000

-- |x|: the sign is cleared, that of a zero too
unfoldable pub abs : Float → Float
abs nan = nan
abs (inf s) = inf false
abs (fin s m e) = fin false m e

-- neither infinite nor a NaN
unfoldable pub is_finite : Float → Bool
is_finite nan = false
is_finite (inf s) = false
is_finite (fin s m e) = true
