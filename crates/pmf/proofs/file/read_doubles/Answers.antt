use native.Mathlib.Nat.{le_refl}
use native.Mathlib.Omega.{arith}
use mathlib.Core.Path.{◌∙◌}
use Rattle.sequence.proofs.Fills.{filling_start, filling_next, filling_end, filled_all}
use Rattle.pmf.proofs.file.read_doubles.Goals as goal

pub loop-i-init : goal.loop-i-init
loop-i-init c = filling_start

pub loop-i-preserved : goal.loop-i-preserved
loop-i-preserved c = filling_next c.loop-i.invariant (omega arith) (le_refl _) c.double_at.ensures

pub returns : goal.returns
returns c = filling_end c.loop-i.invariant (omega arith) ∙ filled_all _ _ _ (le_refl _)
