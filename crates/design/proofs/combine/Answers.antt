use mathlib.Core.Logic.{inl}
use native.Mathlib.Nat.{le_refl}
use native.Mathlib.Omega.{arith}
use Rattle.sequence.proofs.Combine.{start, next, end}
use Rattle.design.proofs.combine.Goals as goal

pub loop-k-init : goal.loop-k-init
loop-k-init g c = λ op p. start _ _ _ _ _ _

pub loop-k-preserved : goal.loop-k-preserved
loop-k-preserved g c =
    let u = c.loop-k in
    λ op p.
    rw (p _ _ _ c.f.ensures)
    (next op _ _ _ _ _ u.k u.w (omega arith) (omega arith) (inl (le_refl _)) c.requires.room.0 (omega arith) (u.invariant op p))

pub returns : goal.returns
returns g c = λ op p. end _ _ _ _ _ _ _ _ (omega arith) (c.loop-k.invariant op p)
