use Prim.Native.Nat.{ℕ, ◌+◌, ◌*◌, ◌<◌}
use mathlib.Core.Path.{◌≡◌, refl}
use mathlib.Core.List.{List, []}
use lib.ListN.{length, get_or, length-append}
use lib.Ieee.{Float, nan}
use Rattle.float.specs.Float.{◌⊕◌, ◌⊗◌}
use Rattle.sequence.specs.Sequence.{at}
use Rattle.sequence.proofs.Sums.{sum_none, added, sum_end}
use Rattle.design.specs.Design.{sheet_at, cos_dec}
use Rattle.design.proofs.Stars.{sky_hour, sky_dec, stars_count}
use Rattle.stats.specs.Stats.{sum_sq_sky}
use native.Mathlib.Omega.{arith}
use Rattle.stats.proofs.Pairs.{pair_turn, pair_end}
use Rattle.stats.proofs.sum_sq_sky.Invariants.{term}
use Rattle.stats.proofs.sum_sq_sky.Goals as goal

module _ (sheets : List Float) (used : List ℕ) (r : List Float) where
  term-at : (i : ℕ) (x y c : Float) → length r ≡ 2 * length used → i < length used → x ≡ at r (2 * i) → y ≡ at r (2 * i + 1)
      → c ≡ cos_dec (sheet_at sheets (get_or used i 0)) → (x ⊗ c) ⊗ (x ⊗ c) ⊕ y ⊗ y ≡ term sheets used r i
  term-at i x y c h g p q e = rw (p, q, e, sky_hour [] [] [] sheets used r i h g, sky_dec [] [] [] sheets used r i h g) refl

pub loop-star-init : goal.loop-star-init
loop-star-init c = sum_none _

pub cos_dec-requires : goal.cos_dec-requires
cos_dec-requires c =
    let a = c.args in
    let u = c.loop-star in
    let z = pair_turn a.r.now a.used.now u.yielded _ _ c.next.new.self _ (cc) (cc) (cc) u.yielded_by _ c.in-Some.is c.next.ensures.steps in
    let below = c.requires.1 (length u.yielded) z.2 in
    omega (arith, below, z.5 0, c.from.ensures)

pub loop-star-preserved : goal.loop-star-preserved
loop-star-preserved c =
    let a = c.args in
    let u = c.loop-star in
    let z = pair_turn a.r.now a.used.now u.yielded _ _ c.next.new.self _ (cc) (cc) (cc) u.yielded_by _ c.in-Some.is c.next.ensures.steps in
    let e = rw (c.from.ensures, z.5 0) at c.cos_dec.ensures in
    rw length-append
    (added (term a.sheets.now a.used.now a.r.now) (length u.yielded) u.sum _ u.invariant
    (term-at a.sheets.now a.used.now a.r.now (length u.yielded) _ _ _ c.requires.2 z.2 (z.3 nan) (z.4 nan) e))

pub returns : goal.returns
unfolding sum_sq_sky
returns c =
    let a = c.args in
    let u = c.loop-star in
    let items = c.into_iter-star-iterator.result in
    let n =
    pair_end a.r.now a.used.now u.yielded items u.star-iterator c.next.new.self c.next.result (cc) (cc) (cc) u.yielded_by c.requires.2 c.in-None.is
    c.next.ensures.steps in
    rw (stars_count [] [] [] a.sheets.now a.used.now)
    (sum_end (term a.sheets.now a.used.now a.r.now) (length u.yielded) (length a.used.now) u.sum (omega arith) (omega arith) u.invariant)
