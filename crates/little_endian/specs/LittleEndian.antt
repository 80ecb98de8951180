-- Numbers and floats in bytes, the lowest byte first. Definitions only.
use Rattle.std.specs.Prelude.{ℕ, ◌+◌, ◌*◌, List, [], ◌∷◌, Float}
use Rattle.std.specs.Float.{binary64}
use Rattle.std.specs.Float.Ieee.{of_bits}
use Rattle.sequence.specs.Sequence.{part}

-- the number whose bytes are these
abbrev pub number : List ℕ → ℕ
number [] = 0
number (b ∷ s) = b + 256 * number s

-- the number in n bytes from i on
abbrev pub number_at : List ℕ → ℕ → ℕ → ℕ
number_at s i n = number (part s i n)

-- the double in eight bytes from i on
abbrev pub float_at : List ℕ → ℕ → Float
float_at s i = of_bits binary64 (number_at s i 8)
