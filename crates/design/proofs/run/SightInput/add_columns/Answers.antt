use Prim.Native.Nat.{◌*◌}
use native.Mathlib.Omega.{arith}
use mathlib.Core.Path.{ap, sym, ◌∙◌}
use lib.ListN.{length}
use lib.Ieee.{Float}
use Rattle.std.proofs.Common.{rules}
use Rattle.float.specs.Float.{◌⊕◌, ◌⊗◌}
use Rattle.sequence.specs.Sequence.{at, each}
use Rattle.design.specs.Sights.{SightInputs}
use Rattle.design.proofs.Terms.{zeroed, turns, turned_none, turned_next, turned_still, turned_end}
use Rattle.design.proofs.run.SightInput.add_columns.Goals.{then-not-skips, else-not-skips}
use Rattle.design.proofs.run.SightInput.add_columns.Goals as goal

pub loop-j-init : goal.loop-j-init
loop-j-init g c = λ skip p. turned_none

pub loop-j-preserved : goal.loop-j-preserved
loop-j-preserved g c = λ skip p.
    let a = c.args in
    let u = c.loop-j in
    let count = ap (λ (s : SightInputs). length s.used) c.self.view_is in
    let n = 2 * length a.self.now.used in
    let x = at a.coefficients.now u.j in
    let op = λ (b d : Float). b ⊕ d ⊗ x in
    let answer = p _ _ c.skips.ensures in
    elim c.if-not-skips.branch [
      | then-not-skips w ↦
          let e = rw count at (w.combine.ensures op (search rules)) in
          let done = turns op u.v w.fill_column.new.col _ _ n (omega arith) (rw count at w.fill_column.auto.col) w.fill_column.ensures e in
          let long = rw w.v-is at c.if-not-skips.auto.v in
          rw w.v-is (turned_next (u.invariant skip p) _ _ (omega arith) (sym answer ∙ w.if-not-skips.true) long w.term_at.ensures done)
      | else-not-skips w ↦ rw w.v-is (turned_still (u.invariant skip p) (omega arith) (sym answer ∙ w.if-not-skips.false))
    ]

pub returns : goal.returns
returns g c = λ skip p.
    let a = c.args in
    let count = ap (λ (s : SightInputs). length s.used) c.self.view_is in
    let n = 2 * length c.self.inside.used.now in
    let z = zeroed a.v.now c.fill.new.self n (length a.v.now) (omega arith) (omega arith) (c.fill.ensures.after (search rules)) in
    let turned = rw (← c.self.view_is) at (c.loop-j.invariant skip p) in
    rw (← c.self.view_is) (turned_end turned (omega arith) ∙ ap (each (length a.coefficients.now) 0 _) z)
