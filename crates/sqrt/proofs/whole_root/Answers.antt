use Rattle.sqrt.proofs.Newton.{first, step}
use Rattle.sqrt.proofs.whole_root.Goals as goal

pub loop-r-init : goal.loop-r-init
loop-r-init c = first c.args.a c.requires.1

pub loop-r-preserved : goal.loop-r-preserved
loop-r-preserved c = step c.args.a c.loop-r.r c.loop-r.invariant c.loop-r-test.true
