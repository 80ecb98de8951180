use Prim.Native.Nat.{◌+◌, ◌*◌, ◌≤◌}
use native.Mathlib.Omega.{arith}
use mathlib.Core.Path.{◌≡◌, refl, ap, ◌∙◌}
use lib.Ieee.{nan}
use Rattle.std.specs.Iterator.Adapters.{enumerate_source}
use Rattle.std.specs.Slice.Iter.{chunks_exact_rest}
use lib.ListN.{length, length-append, length-take}
use Rattle.outcome.proofs.Over.{over_none}
use Rattle.outcome.proofs.Numbered.{numbered_turn}
use Rattle.outcome.proofs.Diagnostics.{diagnostic_numbers_next, diagnostic_given}
use Rattle.outcome.proofs.compute_diagnostics.Invariants.{numbers}
use Rattle.outcome.proofs.compute_diagnostics.Goals as goal

pub loop-i-init : goal.loop-i-init
loop-i-init c = over_none _ 3 (λ i. refl) _

pub loop-i-preserved : goal.loop-i-preserved
loop-i-preserved c =
    let a = c.args in
    let u = c.loop-i in
    let items = c.into_iter-i-iterator in
    let first =
    ap (λ z. chunks_exact_rest (enumerate_source z)) items.ensures.into_iter_gives ∙ ap chunks_exact_rest c.enumerate-i-items.ensures.source
    ∙ c.chunks_exact.ensures.rest in
    let z =
    numbered_turn _ u.yielded items.result u.i-iterator c.next.new.self c.next.result first (cc) (cc) u.yielded_by _ c.in-Some.is
    c.next.ensures.steps in
    let f = numbers a.solved.now a.k a.n a.m a.dof a.w.now in
    let is : c.diagnostic-d.result ≡ f (length u.yielded) =
    diagnostic_given a.w.now _ _ _ _ _ _ _ c.in-Some.i (length u.yielded) a.dof _ _ _ _ _ _ _ z.0 c.sqrt-s.ensures c.variance.ensures (z.3 nan) (z.4 nan)
    c.leverage.ensures c.leverage-in-loop-i.ensures c.diagnostic-d.ensures in
    let within = simp length-take at z.2 in
    let room : 3 * length u.yielded + 3 ≤ length a.out.now = omega (arith, within, c.requires.sizes.5) in
    let next = diagnostic_numbers_next f c.in-Some.i (length u.yielded) a.out.now u.out c.diagnostic-d.result z.0 room u.invariant is in
    rw (c.copy_from_slice.ensures.after, length-append) next
