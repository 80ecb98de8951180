use Prim.Native.Nat.{ℕ, ◌+◌, ◌*◌}
use native.Mathlib.Omega.{arith}
use mathlib.Core.Path.{◌≡◌, refl, ap, ◌∙◌}
use mathlib.Core.Bool.{false}
use mathlib.Core.List.{List}
use lib.ListN.{length, replicate}
use lib.Ieee.{Float}
use Rattle.std.proofs.Common.{rules}
use Rattle.float.specs.Float.{#0, ◌⊕◌, ◌⊗◌}
use Rattle.solver.specs.declared.Settings.{Settings}
use Rattle.sequence.specs.Sequence.{at, each}
use Rattle.sequence.proofs.Only.{only_none, only_wider, only_then, back_only}
use Rattle.design.specs.Design.{Star, term_at, sky_column, plus, weighing, weighed_at, extracted, product}
use Rattle.design.specs.Sights.{SightInputs}
use Rattle.design.proofs.Terms.{combines, zeroed, step, turned_none, turned_next, turned_end}
use Rattle.design.proofs.run.SightInput.free_product.Invariants.{term}
use Rattle.design.proofs.run.SightInput.free_product.Goals as goal

-- the loop's end, where the residuals are those at entry and the sums began as zeros
done : (k : Float) (x : List Float) (s : Settings) (ss : List Star) (names free : List ℕ) (n : ℕ) (v b₀ b p : List Float)
    → v ≡ each (length free) 0 (step (λ y. false) plus (at x) (λ t. weighing k b₀ (sky_column s ss t)) (term names free)) p
    → b₀ ≡ b → p ≡ replicate n #0 → v ≡ product n (length free) (at x) (extracted free (weighed_at k b s ss names))
unfolding product
done k x s ss names free n v b₀ b p e same z = rw (same, z) at e

pub loop-i-init : goal.loop-i-init
loop-i-init c = (turned_none, only_none 0 _ _)

pub loop-i-preserved : goal.loop-i-preserved
loop-i-preserved c =
    let u = c.loop-i in
    let a = c.args in
    let count = ap (λ (s : SightInputs). length s.used) c.self.view_is in
    let n = length a.self.now.used in
    let y = at a.x.now u.i in
    let op = λ (b d : Float). b ⊕ d ⊗ y in
    let e = c.weighed_column.ensures in
    let same = u.invariant.1.above (6 * n) (2 * n) (omega arith) in
    let p = combines op u.v _ _ _ (2 * n) (omega arith) e.filled e.only (rw count at (c.combine.ensures op (search rules))) in
    let is = c.term_at.ensures ∙ ap (term_at a.names.now) c.from.ensures in (
      turned_next u.invariant.0 _ _ (omega arith) refl p.1.long is (rw same at p.0),
      only_then 0 (4 * n) _ u.v _ u.invariant.1 (only_wider 0 (2 * n + 2 * n) 0 (4 * n) u.v _ (omega arith) (omega arith) p.1),
    )

pub returns : goal.returns
returns c =
    let u = c.loop-i in
    let a = c.args in
    let i = c.self.inside in
    let count = ap (λ (s : SightInputs). length s.used) c.self.view_is in
    let n = length i.used.now in
    let zeros = c.fill.ensures.after (search rules) in
    let z = zeroed a.v.now c.fill.new.self (2 * n) (2 * n + 2 * n) refl (omega arith) zeros in
    let only = back_only a.v.now c.fill.new.self (2 * n) (2 * n) (omega arith) c.fill.auto.self in
    let same = only.above (6 * n) (2 * n) (omega arith) in
    let turned = rw (← c.self.view_is) at u.invariant in
    rw (← c.self.view_is) record {
      filled = done a.k a.x.now i.settings _ a.names.now a.free.now (2 * n) _ _ _ _ (turned_end turned.0 (omega arith)) same z;
      only =
          only_then 0 (4 * n) a.v.now _ u.v
          (only_wider (2 * n) (2 * n) 0 (4 * n) a.v.now _ (omega arith) (omega arith) only) turned.1;
    }
