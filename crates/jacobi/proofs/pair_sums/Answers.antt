-- `jacobi::pair_sums` meets its contract. Assumes nothing.
use native.Mathlib.Omega.{arith}
use Rattle.sequence.proofs.Parts.{inside}
use Rattle.jacobi.proofs.pair_sums.Goals as goal

pub overflow_mul-p : goal.overflow_mul-p
overflow_mul-p c = omega (arith, inside _ _ c.args.m c.args.h c.requires.0 (omega arith))

pub overflow_mul-q : goal.overflow_mul-q
overflow_mul-q c = omega (arith, inside _ _ c.args.m c.args.h c.requires.0 (omega arith))

pub sums-requires : goal.sums-requires
sums-requires c = omega (arith, inside _ _ c.args.m c.args.h c.requires.0 (omega arith))

pub returns : goal.returns
returns c = λ l. absurd (omega arith)
