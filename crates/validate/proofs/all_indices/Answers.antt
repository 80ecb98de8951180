use mathlib.Core.Path.{◌≡◌, refl, ap, ◌∙◌}
use mathlib.Core.List.{◌++◌}
use lib.ListN.{length, take, drop}
use lib.Seq.{length-take-le}
use native.Mathlib.Omega.{arith}
use Rattle.sequence.proofs.Fills.{filling_start, filling_next, filling_end, filled_all}
use Rattle.validate.proofs.all_indices.Goals as goal

pub loop-i-init : goal.loop-i-init
loop-i-init c = filling_start

pub loop-i-preserved : goal.loop-i-preserved
loop-i-preserved c =
    let e : length (take c.args.n c.args.out.now) ≡ c.args.n = length-take-le _ _ c.requires.1 in
    filling_next c.loop-i.invariant (omega arith) (omega arith) refl

pub returns : goal.returns
returns c =
    let e : length (take c.args.n c.args.out.now) ≡ c.args.n = length-take-le _ _ c.requires.1 in
    ap (λ s. s ++ drop c.args.n c.args.out.now)
    (filling_end c.loop-i.invariant (omega arith) ∙ filled_all _ _ _ (omega arith))
