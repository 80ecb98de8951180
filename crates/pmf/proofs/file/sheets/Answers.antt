use Prim.Native.Nat.{◌*◌}
use native.Mathlib.Omega.{arith}
use borrow.Author.Rules.{rules}
use Rattle.limits.specs.Limits.{sheet_numbers}
use Rattle.sequence.proofs.Fills.{filling_start, filling_next}
use Rattle.pmf.proofs.Laws.{lent_filled}
use Rattle.pmf.proofs.file.sheets.Goals as goal

pub loop-k-init : goal.loop-k-init
loop-k-init c = (search rules, filling_start)

pub loop-k-preserved : goal.loop-k-preserved
loop-k-preserved c = (c.loop-k.invariant.0, filling_next c.loop-k.invariant.1 (omega arith) (omega arith) c.double_at.ensures)

pub returns : goal.returns
returns c = lent_filled _ (sheet_numbers * c.args.n) _ c.loop-k.invariant.0 c.loop-k.invariant.1 (omega arith)
