-- The sweeps that a solve tells of, and the solve at the damping 0. Assumes nothing.
use Prim.Native.Nat.{ℕ}
use mathlib.Core.Path.{◌≡◌, refl}
use mathlib.Core.List.{List}
use lib.Ieee.{Float, of_bits, le}
use Rattle.float.specs.Float.{#0}
use Rattle.linalg.specs.Linalg.{factorised_from, decomposed, answered, solved, solved_damped}

module _ (h rows m : ℕ) (w b : List Float) (fitTol : Float) where
  -- they are those of the factorisation of its columns
  pub sweeps-made : (solved h rows m w b fitTol).outcome.sweeps ≡ (factorised_from h rows m w).made
  unfolding solved answered decomposed
  sweeps-made = refl

  pub sweeps_settled : (solved h rows m w b fitTol).outcome.settled ≡ (factorised_from h rows m w).settled
  unfolding solved answered decomposed
  sweeps_settled = refl

  -- at the damping 0 no row is added
  pub undamped : solved_damped h rows m w b #0 fitTol ≡ solved h rows m w b fitTol
  unfolding solved_damped le of_bits
  undamped = refl
