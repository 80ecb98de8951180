use Rattle.std.proofs.Common.{◌≡◌, length, ap, arith}
use Rattle.std.proofs.lemmas.List.{get_or-take}
use lib.Ieee.{nan}
use Rattle.sequence.proofs.Sums.{summing_start, summing_next, summing_skip, summing_end}
use Rattle.linalg.specs.Linalg.{squares_of}
use Rattle.linalg.proofs.Laws.{not_zero, is_zero}
use Rattle.linalg.proofs.Columns.squares.Goals as goal
use Rattle.linalg.proofs.Columns.squares.Goals.{then-s, else-s}

pub loop-i-init : goal.loop-i-init
loop-i-init g c = summing_start

pub loop-i-preserved : goal.loop-i-preserved
loop-i-preserved g c =
    let u = c.loop-i in
    let n : length c.self.inside.o.now ≡ length c.args.self.now.o = ap (λ v. length v.o) c.self.view_is in
    let inverse = get_or-take (length c.self.inside.o.now) c.args.inv_s.now u.i nan (omega arith) in
    elim c.if-s.branch [
      | then-s k ↦ let h = c.requires.1.1.1 _ _ _ k.part-x.ensures in rw k.t-is (summing_next u.invariant (omega (arith, n)) (rw inverse at (not_zero _ k.if-s.true)) (rw (h, inverse, k.entry-v.ensures)))
      | else-s k ↦ rw k.t-is (summing_skip u.invariant (omega (arith, n)) (rw inverse at (is_zero _ k.if-s.false)))
    ]

pub returns : goal.returns
unfolding squares_of
returns g c =
    let n : length c.self.inside.o.now ≡ length c.args.self.now.o = ap (λ v. length v.o) c.self.view_is in
    summing_end c.loop-i.invariant (omega (arith, n, c.self.invariant.taken.few))
