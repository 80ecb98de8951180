use native.Mathlib.Numerals.{add-one}
use native.Mathlib.Omega.{arith}
use mathlib.Core.Path.{sym, ◌∙◌}
use lib.Ieee.{nan, add, binary64}
use Rattle.sequence.proofs.Parts.{length-zip, zip-at}
use Rattle.sequence.proofs.Partway.{start, step, end}
use Rattle.single_step.proofs.changed.Goals as goal

pub loop-j-init : goal.loop-j-init
loop-j-init c =
    let a = c.args in
    start _ _ (length-zip (add binary64) a.coefficients.now a.change.now (omega arith) ∙ sym c.requires.1)

pub loop-j-preserved : goal.loop-j-preserved
loop-j-preserved c =
    let u = c.loop-j in
    let e = zip-at (add binary64) c.args.coefficients.now c.args.change.now u.j c.requires.0 (omega arith) in
    rw (add-one u.j) (step _ _ u.j u.out _ nan (omega arith) u.invariant e)

pub returns : goal.returns
returns c = let u = c.loop-j in end _ _ u.j u.out (omega arith) u.invariant
