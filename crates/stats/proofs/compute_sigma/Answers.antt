use mathlib.Core.Path.{refl}
use native.Mathlib.Omega.{arith}
use lib.Ieee.{nan}
use lib.ListN.{length, length-append, length-set}
use Rattle.std.proofs.lemmas.Slice.Zip.{zip_turn, zip_end}
use Rattle.sequence.proofs.Fills.{each_none, each_next, each_end}
use Rattle.design.specs.Design.{scattered}
use Rattle.stats.proofs.compute_sigma.Invariants.{turn}
use Rattle.stats.proofs.compute_sigma.Goals as goal

pub loop-j-init : goal.loop-j-init
loop-j-init c = (refl, each_none _ _)

pub loop-j-preserved : goal.loop-j-preserved
loop-j-preserved c =
    let a = c.args in
    let n = length c.loop-j.yielded in
    let f = turn a.free.now a.s2 a.cov_diag.now in
    let z = zip_turn a.free.now a.cov_diag.now c.loop-j.yielded _ _ c.next.new.self _ (cc) (cc) c.loop-j.yielded_by _ c.in-Some.is c.next.ensures.steps in (
      simp length-set c.loop-j.invariant.0,
      rw length-append
          (each_next n f a.sigma.now c.loop-j.sigma _ c.loop-j.invariant.1 (rw (c.sqrt.ensures, c.abs.ensures, c.from.ensures, z.2 0, z.3 nan) refl)),
    )

pub returns : goal.returns
unfolding scattered
returns c =
    let a = c.args in
    let u = c.loop-j in
    let items = c.into_iter-j-iterator.result in
    let n =
    zip_end a.free.now a.cov_diag.now u.yielded items u.j-iterator c.next.new.self c.next.result (cc) (cc) u.yielded_by c.in-None.is
    c.next.ensures.steps in
    each_end (length c.loop-j.yielded) (length a.free.now) (turn a.free.now a.s2 a.cov_diag.now) a.sigma.now c.loop-j.sigma (omega arith) (omega arith)
    c.loop-j.invariant.1
