use Prim.Native.Nat.{◌*◌}
use native.Mathlib.Omega.{arith}
use mathlib.Core.Path.{ap}
use borrow.Author.Tests.{not-true, not-false}
use lib.ListN.{length}
use lib.Ieee.{Float, ne}
use Rattle.std.proofs.Common.{rules}
use Rattle.float.specs.Float.{◌⊖◌, ◌⊗◌}
use Rattle.sequence.specs.Sequence.{at}
use Rattle.design.specs.Design.{subtract_all}
use Rattle.design.specs.Sights.{SightInputs}
use Rattle.design.proofs.Terms.{turns, turned_none, turned_next, turned_still, turned_end}
use Rattle.design.proofs.run.SightInput.subtract_all_contributions.Goals.{then-c, else-c}
use Rattle.design.proofs.run.SightInput.subtract_all_contributions.Goals as goal

pub loop-j-init : goal.loop-j-init
loop-j-init c = turned_none

pub loop-j-preserved : goal.loop-j-preserved
unfolding ne
loop-j-preserved c =
    let a = c.args in
    let u = c.loop-j in
    let count = ap (λ (s : SightInputs). length s.used) c.self.view_is in
    let n = 2 * length a.self.now.used in
    let x = at a.coefficients.now u.j in
    let op = λ (b d : Float). b ⊖ d ⊗ x in
    elim c.if-c.branch [
      | then-c w ↦
          let e = rw count at (w.combine.ensures op (search rules)) in
          let done = turns op u.v w.fill_sky_column.new.col _ _ n (omega arith) (rw count at w.fill_sky_column.auto.col) w.fill_sky_column.ensures e in
          rw w.v-is (turned_next u.invariant _ _ (omega arith) (not-true _ w.if-c.true) (rw w.v-is at c.if-c.auto.v) w.term_at.ensures done)
      | else-c w ↦ rw w.v-is (turned_still u.invariant (omega arith) (not-false _ w.if-c.false))
    ]

pub returns : goal.returns
unfolding subtract_all
returns c = turned_end c.loop-j.invariant (omega arith)
