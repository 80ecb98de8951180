use native.Mathlib.Numerals.{add-one}
use native.Mathlib.Omega.{arith}
use mathlib.Core.Path.{sym, ◌∙◌}
use lib.Ieee.{binary64, sub, nan}
use Rattle.sequence.proofs.Parts.{length-zip, zip-at}
use Rattle.sequence.proofs.Partway as partway
use Rattle.iterated.proofs.changes.Goals as goal

pub loop-j-init : goal.loop-j-init
loop-j-init c =
    let a = c.args in
    partway.start _ _ (length-zip (sub binary64) a.set.now a.start.now (sym c.requires.0) ∙ sym c.requires.1)

pub loop-j-preserved : goal.loop-j-preserved
loop-j-preserved c =
    let u = c.loop-j in
    let a = c.args in
    rw (add-one u.j)
    (partway.step _ _ u.j u.change _ nan (omega arith) u.invariant
    (zip-at (sub binary64) a.set.now a.start.now u.j c.requires.0 (omega arith)))
