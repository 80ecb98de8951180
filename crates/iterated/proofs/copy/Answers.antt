use native.Mathlib.Numerals.{add-one}
use native.Mathlib.Omega.{arith}
use mathlib.Core.Path.{refl, sym}
use lib.Ieee.{nan}
use Rattle.sequence.proofs.Partway as partway
use Rattle.iterated.proofs.copy.Goals as goal

pub loop-j-init : goal.loop-j-init
loop-j-init c = partway.start _ _ (sym c.requires)

pub loop-j-preserved : goal.loop-j-preserved
loop-j-preserved c =
    let u = c.loop-j in
    rw (add-one u.j) (partway.step _ _ u.j u.to _ nan (omega arith) u.invariant refl)
