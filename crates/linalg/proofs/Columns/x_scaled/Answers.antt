use Rattle.std.proofs.Common.{◌≡◌, length, ap, arith}
use Rattle.std.proofs.lemmas.List.{get_or-take}
use lib.Ieee.{nan}
use Rattle.sequence.proofs.Sums.{sum_none, added, sum_end}
use Rattle.linalg.specs.Linalg.{x_scaled}
use Rattle.linalg.proofs.Columns.x_scaled.Goals as goal

pub loop-i-init : goal.loop-i-init
loop-i-init c = sum_none _

pub loop-i-preserved : goal.loop-i-preserved
loop-i-preserved c =
    let e = get_or-take (length c.self.inside.o.now) c.args.z.now c.loop-i.i nan (omega arith) in
    added _ c.loop-i.i _ _ c.loop-i.invariant (rw (e, c.entry.ensures))

pub returns : goal.returns
unfolding x_scaled
returns c =
    let n : length c.self.inside.o.now ≡ length c.args.self.now.o = ap (λ v. length v.o) c.self.view_is in
    sum_end _ c.loop-i.i _ _ (omega (arith, n)) (omega (arith, n, c.self.invariant.taken.few)) c.loop-i.invariant
