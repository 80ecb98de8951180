use mathlib.Core.Path.{ap}
use mathlib.Core.List.{List}
use Prim.Native.Nat.{ℕ, ◌+◌, ◌*◌, ◌≤◌}
use native.Mathlib.Omega.{arith}
use lib.ListN.{length}
use lib.Seq.{sets}
use lib.Ieee.{Float}
use Rattle.sequence.proofs.Parts.{apart, length_part}
use Rattle.sequence.proofs.Passes.{passing_start, passing_lent, passing_end}
use Rattle.column.specs.Column.{diagonal, diagonals}
use Rattle.column.proofs.Laws.{length-diagonal}
use Rattle.column.proofs.diagonals.Goals as goal

pub loop-j-init : goal.loop-j-init
loop-j-init c = passing_start

pub loop-j-preserved : goal.loop-j-preserved
loop-j-preserved c =
    let u = c.loop-j in
    let a = c.args in
    let x = u.j * a.h + a.from in
    let fits : x + a.m ≤ length u.w = omega (arith, apart u.j a.m a.h (omega arith)) in
    let g : List Float → List Float = λ p. diagonal (length p) u.j a.d in
    passing_lent u.invariant g (length-diagonal u.j a.d) x a.m _ (omega arith) fits c.diagonal.ensures
    (ap (λ (n : ℕ). sets u.w x (diagonal n u.j a.d)) (length_part u.w x a.m fits))

pub returns : goal.returns
unfolding diagonals
returns c = passing_end c.loop-j.invariant (omega arith)
