-- `outcome::compute_diagnostics` meets its contract. The invariant: the numbers of the first stars are written. Assumes nothing.
use Prim.Native.Nat.{ℕ, ◌+◌, ◌*◌}
use mathlib.Core.Path.{◌≡◌}
use mathlib.Core.List.{List, ◌++◌}
use lib.ListN.{length, take, drop}
use lib.Ieee.{Float}
use Rattle.sequence.specs.Sequence.{part}
use Rattle.solver.specs.declared.ObsDiagnostic.{ObsDiagnostic}
use Rattle.linalg.specs.declared.SolveOutcome.{SolveOutcome}
use Rattle.linalg.specs.Linalg.{leverage_of}
use Rattle.outcome.specs.Outcome.{diagnostic_from, diagnostic_numbers}
use Rattle.outcome.proofs.compute_diagnostics.Given as goal

-- what is written of each star
abbrev pub numbers : SolveOutcome → ℕ → ℕ → ℕ → ℕ → List Float → ℕ → ObsDiagnostic
numbers o k n m dof w =
    diagnostic_from dof (part w (2 * n) (2 * n)) (leverage_of (2 * n + 2 * m) (part w (8 * n) (k * (2 * n + 2 * m))) (take k o.order) o.inv_s)

abbrev pub invariant-loop-i : goal.invariant-loop-i
invariant-loop-i l =
    l.out ≡ diagnostic_numbers (length l.yielded) (numbers l.solved l.k l.n l.m l.dof l.w) ++ drop (3 * length l.yielded) l.initial.out
