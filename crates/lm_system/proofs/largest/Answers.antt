use native.Mathlib.Omega.{arith}
use mathlib.Core.Path.{refl}
use lib.Ieee.{nan}
use lib.ListN.{length, get_or, length-append}
use Rattle.std.proofs.lemmas.Slice.Zip.{zip_turn, zip_end}
use Rattle.float.specs.Float.{#0}
use Rattle.sequence.proofs.Fills.{each_none, each_next, each_end}
use Rattle.terms.specs.Slots.{slot}
use Rattle.lm_system.specs.System.{largest}
use Rattle.lm_system.proofs.ByName.{rotational_by_kind}
use Rattle.lm_system.proofs.largest.Invariants.{turn}
use Rattle.lm_system.proofs.largest.Goals as goal

pub loop-j-init : goal.loop-j-init
loop-j-init c = each_none _ _

pub term_at-requires : goal.term_at-requires
term_at-requires c =
    let a = c.args in
    let u = c.loop-j in
    let z =
    zip_turn a.free.now a.x.now u.yielded _ _ c.next.new.self _ (cc) (cc) u.yielded_by _ c.in-Some.is c.next.ensures.steps in
    rw (c.from.ensures, z.2 0) (c.requires.0 (length u.yielded) z.0)

pub loop-j-preserved : goal.loop-j-preserved
loop-j-preserved c =
    let a = c.args in
    let u = c.loop-j in
    let i = length u.yielded in
    let z =
    zip_turn a.free.now a.x.now u.yielded _ _ c.next.new.self _ (cc) (cc) u.yielded_by _ c.in-Some.is c.next.ensures.steps in
    let known = rotational_by_kind (slot a.names.now (get_or a.free.now i 0)) (c.requires.1 i z.0) in
    rw length-append
    (each_next i (turn a.names.now a.free.now a.x.now) #0 u.most _ u.invariant
    (rw (c.larger-most.ensures, c.term_at.ensures, c.from.ensures, z.2 0, z.3 nan, known) refl))

pub returns : goal.returns
unfolding largest
returns c =
    let a = c.args in
    let u = c.loop-j in
    let n =
    zip_end a.free.now a.x.now u.yielded c.into_iter-j-iterator.result u.j-iterator c.next.new.self c.next.result (cc) (cc)
    u.yielded_by c.in-None.is c.next.ensures.steps in
    each_end (length u.yielded) (length a.free.now) (turn a.names.now a.free.now a.x.now) #0 u.most (omega arith) (omega arith) u.invariant
