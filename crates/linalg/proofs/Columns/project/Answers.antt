use Rattle.std.proofs.Common.{◌≡◌, ◌+◌, ◌*◌, ◌≤◌, length, get_or, ap, arith}
use Rattle.sequence.proofs.Fills.{filling_start, filling_next, filling_end}
use Rattle.linalg.specs.Linalg.{projected}
use Rattle.linalg.proofs.Laws.{lies, projects}
use Rattle.linalg.proofs.Columns.project.Goals as goal

pub loop-i-init : goal.loop-i-init
loop-i-init c = filling_start

pub loop-i-preserved : goal.loop-i-preserved
loop-i-preserved c =
    let u = c.loop-i in
    let l = c.self.inside in
    let n : length l.o.now ≡ length c.args.self.now.o = ap (λ v. length v.o) c.self.view_is in
    let h : l.h ≡ c.args.self.now.h = ap (λ v. v.h) c.self.view_is in
    let room : get_or l.o.now u.i 0 * l.h + c.args.rows ≤ length l.w.now =
    omega (arith, lies l.h l.w.now l.o.now u.i c.self.invariant (omega arith), h, c.requires) in
    filling_next u.invariant (omega (arith, n)) (omega (arith, n, c.self.invariant.taken.few))
    (rw (← c.self.view_is) (projects _ c.dot.result l.w.now c.args.b.now _ c.args.rows room c.dot.ensures))

pub returns : goal.returns
unfolding projected
returns c =
    let n : length c.self.inside.o.now ≡ length c.args.self.now.o = ap (λ v. length v.o) c.self.view_is in
    filling_end c.loop-i.invariant (omega (arith, n))
