use Prim.Native.Nat.{◌+◌, ◌*◌}
use mathlib.Core.Path.{◌≡◌, ◌∙◌}
use mathlib.Core.List.{[]}
use lib.ListN.{get_or, set}
use lib.Ieee.{Float, nan, binary64, sub}
use Rattle.std.proofs.lemmas.List.{get_or-set_other}
use native.Mathlib.Omega.{arith}
use Rattle.sequence.proofs.Parts.{length-zip}
use Rattle.sequence.proofs.Partway.{start, pair, read, end}
use Rattle.design.specs.Design.{star_at, differences}
use Rattle.design.proofs.Rows.{count, zip-hour, zip-dec}
use Rattle.design.proofs.subtract_from_differences.Goals as goal

pub loop-r-init : goal.loop-r-init
unfolding differences
loop-r-init c =
    let a = c.args in
    let n = count (star_at a.dh.now a.dd.now [] []) _ _ a.used.now in
    start _ _ (length-zip (sub binary64) _ _ (n ∙ omega arith) ∙ n ∙ omega arith)

pub loop-r-preserved : goal.loop-r-preserved
unfolding differences
loop-r-preserved c =
    let a = c.args in
    let s = star_at a.dh.now a.dd.now [] [] in
    let n = a.used.now in
    let b = a.b.now in
    let r = c.loop-r.r in
    let i = c.from-i.ensures in
    let h = read b _ (2 * r) (2 * r) c.loop-r.b nan (omega arith) (omega arith) c.loop-r.invariant in
    let d = read b _ (2 * r) (2 * r + 1) c.loop-r.b nan (omega arith) (omega arith) c.loop-r.invariant in
    let kept : (x : Float) → get_or (set c.loop-r.b (2 * r) x) (2 * r + 1) nan ≡ get_or c.loop-r.b (2 * r + 1) nan =
    λ x. get_or-set_other c.loop-r.b (2 * r) (2 * r + 1) x nan (omega arith) in
    pair b _ r c.loop-r.b _ _ nan (omega arith) c.loop-r.invariant
    (rw (h, i) (zip-hour s _ _ (sub binary64) n b r (omega arith) (omega arith)))
    (rw (kept, d, i) (zip-dec s _ _ (sub binary64) n b r (omega arith) (omega arith)))

pub returns : goal.returns
returns c = end _ _ _ _ (omega arith) c.loop-r.invariant
