-- antt runs the definition on matrices of two columns and two rows, each column with its column of V below it. The bits are those that
-- bench/examples.rs prints: plain Rust, written from docs/SCOPE.md 6.2.
use mathlib.Core.Path.{◌≡◌, refl}
use mathlib.Core.Bool.{true}
use mathlib.Core.List.{List, [], ◌∷◌, zip_with, map}
use Prim.Native.Nat.{ℕ}
use lib.Ieee.{Float, binary64, add, sub, mul, div, neg, lt, of_bits}
use Rattle.float.specs.Float.{#0, #1, #2, abs}
use Rattle.sequence.specs.Sequence.{each, dot}
use Rattle.sqrt.specs.Sqrt as Root
use Rattle.jacobi.specs.Jacobi.{zeta_of, tan_of, cos_of, turn, pair, row, sweep, sweeps, factorised}

abbrev bits : List ℕ → List Float
bits l = map (of_bits binary64) l

-- the columns (1, 0) and (1, 1): one sweep that turns, and one that doesn't
turning : factorised 4 2 2 (#1 ∷ #0 ∷ #1 ∷ #0 ∷ #1 ∷ #1 ∷ #0 ∷ #1 ∷ [])
    ≡ record {
      w = bits
          (0x3fd4_cb7b_fb49_61b0 ∷ 0xbfe0_d2ca_0da1_530c ∷ 0x3feb_3888_0b46_03e4 ∷ 0xbfe0_d2ca_0da1_530c
          ∷ 0x3ff6_05a9_0c73_ab78 ∷ 0x3feb_3888_0b46_03e4 ∷ 0x3fe0_d2ca_0da1_530c ∷ 0x3feb_3888_0b46_03e4 ∷ []);
      made = 2;
      settled = true;
    }
unfolding sweeps sweep row each pair turn zeta_of tan_of cos_of dot zip_with add sub mul div neg lt of_bits abs Root.sqrt
turning = refl

-- (1, 0) and (-1, 0), where ζ is -0: t is 1, and column 1 becomes zeros
negative_zero : factorised 4 2 2 (#1 ∷ #0 ∷ #1 ∷ #0 ∷ of_bits binary64 0xbff0_0000_0000_0000 ∷ #0 ∷ #0 ∷ #1 ∷ [])
    ≡ record {
      w = bits (0x3ff6_a09e_667f_3bcc ∷ 0 ∷ 0x3fe6_a09e_667f_3bcc ∷ 0xbfe6_a09e_667f_3bcc ∷ 0 ∷ 0 ∷ 0x3fe6_a09e_667f_3bcc ∷ 0x3fe6_a09e_667f_3bcc ∷ []);
      made = 2;
      settled = true;
    }
unfolding sweeps sweep row each pair turn zeta_of tan_of cos_of dot zip_with add sub mul div neg lt of_bits abs Root.sqrt
negative_zero = refl

-- (3, 4) and (4, -3), and (0, 0) and (1, 2): no pair turns, and all stays as it was
abbrev Still : List Float → Type 0
Still w = factorised 4 2 2 w ≡ record { w = w; made = 1; settled = true }

still : Still (bits (0x4008_0000_0000_0000 ∷ 0x4010_0000_0000_0000 ∷ 0x3ff0_0000_0000_0000 ∷ 0 ∷ 0x4010_0000_0000_0000 ∷ 0xc008_0000_0000_0000 ∷ 0 ∷ 0x3ff0_0000_0000_0000 ∷ []))
unfolding sweeps sweep row each pair dot zip_with add sub mul div neg lt of_bits
still = refl

zero-column : Still (#0 ∷ #0 ∷ #1 ∷ #0 ∷ #1 ∷ #2 ∷ #0 ∷ #1 ∷ [])
unfolding sweeps sweep row each pair dot zip_with add sub mul div neg lt of_bits
zero-column = refl
