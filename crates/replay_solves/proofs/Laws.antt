-- The sizes of a replayed system, and the order of its columns. Assumes nothing.
use Prim.Native.Nat.{ℕ, ◌+◌, ◌*◌, ◌≤◌}
use native.Mathlib.Nat.{mul-le-mul}
use native.Mathlib.Omega.{arith}
use mathlib.Core.Path.{refl}
use mathlib.Core.Bool.{Bool, true, false, cond}
use mathlib.Core.List.{List}
use lib.Ieee.{Float, le}
use Rattle.float.specs.Float.{#0}
use Rattle.linalg.specs.Linalg.{Solved, decomposed, answered, solved, solved_damped}
use Rattle.replay_solves.specs.Systems.{Ordered}

-- 32 columns of 320 numbers at most
pub fits : (m rows : ℕ) → m ≤ 32 → rows ≤ 256 → m * (rows + m + m) ≤ 10240
fits m rows p q = mul-le-mul {n₂ = 32} {m₂ = 320} p (omega arith)

solved-ordered : (h rows m : ℕ) (w b : List Float) (fitTol : Float) → Ordered m (solved h rows m w b fitTol).outcome.order
unfolding solved answered
solved-ordered h rows m w b fitTol = ((decomposed h rows m w).values, refl)

either : (t : Bool) (x y : Solved) (m : ℕ) → Ordered m x.outcome.order → Ordered m y.outcome.order → Ordered m (cond t x y).outcome.order
either true x y m p q = p
either false x y m p q = q

pub damped_ordered : (h rows m : ℕ) (w b : List Float) (lambda fitTol : Float) → Ordered m (solved_damped h rows m w b lambda fitTol).outcome.order
unfolding solved_damped
damped_ordered h rows m w b lambda fitTol = either (le lambda #0) _ _ m (solved-ordered h rows m w b fitTol) (solved-ordered h (rows + m) m _ b fitTol)
