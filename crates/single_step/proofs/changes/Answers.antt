use native.Mathlib.Omega.{arith}
use mathlib.Core.Path.{refl, ap, ◌∙◌}
use lib.Ieee.{nan}
use lib.ListN.{length, length-append}
use Rattle.std.proofs.lemmas.Slice.Zip.{zip_turn, zip_end}
use Rattle.sequence.specs.Sequence.{each}
use Rattle.sequence.proofs.Fills.{each_none, each_next, each_end}
use Rattle.design.specs.Design.{scattered}
use Rattle.single_step.proofs.changes.Invariants.{turn}
use Rattle.single_step.proofs.changes.Goals as goal

pub loop-j-init : goal.loop-j-init
loop-j-init c = each_none _ _

pub loop-j-preserved : goal.loop-j-preserved
loop-j-preserved c =
    let a = c.args in
    let u = c.loop-j in
    let z = zip_turn a.free.now a.x.now u.yielded _ _ c.next.new.self _ (cc) (cc) u.yielded_by _ c.in-Some.is c.next.ensures.steps in
    rw length-append
    (each_next (length u.yielded) (turn a.free.now a.x.now) _ u.change _ u.invariant (rw (c.from.ensures, z.2 0, z.3 nan) refl))

pub returns : goal.returns
unfolding scattered
returns c =
    let a = c.args in
    let u = c.loop-j in
    let t = turn a.free.now a.x.now in
    let items = c.into_iter-j-iterator.result in
    let n =
    zip_end a.free.now a.x.now u.yielded items u.j-iterator c.next.new.self c.next.result (cc) (cc) u.yielded_by c.in-None.is c.next.ensures.steps in
    each_end (length u.yielded) (length a.free.now) t _ u.change (omega arith) (omega arith) u.invariant
    ∙ ap (each (length a.free.now) 0 t) c.fill.ensures
