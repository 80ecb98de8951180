use native.Mathlib.Omega.{arith}
use mathlib.Core.Path.{refl}
use borrow.Author.Rules.{rules}
use Rattle.sequence.proofs.Fills.{filling_start, filling_next}
use Rattle.pmf.proofs.Laws.{lent_filled}
use Rattle.pmf.proofs.file.piers.Goals as goal

pub loop-i-init : goal.loop-i-init
loop-i-init c = (search rules, filling_start)

pub loop-i-preserved : goal.loop-i-preserved
loop-i-preserved c = (c.loop-i.invariant.0, filling_next c.loop-i.invariant.1 (omega arith) (omega arith) refl)

pub returns : goal.returns
returns c = lent_filled _ c.args.n _ c.loop-i.invariant.0 c.loop-i.invariant.1 (omega arith)
