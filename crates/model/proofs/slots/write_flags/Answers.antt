use native.Mathlib.Omega.{arith}
use mathlib.Core.Path.{ap, ◌∙◌}
use lib.ListN.{length}
use Rattle.sequence.proofs.Fills.{filling_start, filling_next, filling_end, filled_all}
use Rattle.terms.specs.declared.Term.{Term}
use Rattle.model.specs.Slots.{pier_at}
use Rattle.model.proofs.slots.write_flags.Goals as goal

pub loop-i-init : goal.loop-i-init
loop-i-init c = filling_start

pub loop-i-preserved : goal.loop-i-preserved
loop-i-preserved c =
    filling_next c.loop-i.invariant (omega (arith, c.loop-i.invariant.long)) (omega arith) (ap (λ (t : Term). t.pier_sensitive) c.term_at.ensures)

pub returns : goal.returns
returns c =
    let flags = c.args.flags.now in
    filling_end c.loop-i.invariant (omega (arith, c.loop-i.invariant.long)) ∙ filled_all (pier_at c.args.names.now) (length flags) flags (omega arith)
