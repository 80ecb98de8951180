use Rattle.std.proofs.Common.{◌≡◌, length, ap, arith}
use Rattle.sequence.proofs.Fills.{filling_start, filling_next, filling_end}
use Rattle.column.specs.Column.{zeros}
use Rattle.column.proofs.Laws.{front_filled}
use Rattle.linalg.specs.Linalg.{covariance}
use Rattle.linalg.proofs.Columns.covariance.Goals as goal

pub loop-j-init : goal.loop-j-init
loop-j-init c = filling_start

pub loop-j-preserved : goal.loop-j-preserved
loop-j-preserved c = filling_next c.loop-j.invariant (omega arith) (omega arith) (rw (c.scale-s.ensures, c.scaled_variance.ensures))

pub returns : goal.returns
unfolding covariance
returns c =
    let m = length c.self.inside.o.now in
    let n : m ≡ length c.args.self.now.o = ap (λ v. length v.o) c.self.view_is in
    rw (← n) (front_filled _ m zeros _ (omega (arith, c.self.invariant.taken.few)) (filling_end c.loop-j.invariant (omega arith)))
