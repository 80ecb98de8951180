use mathlib.Core.Path.{◌≡◌, refl, sym, ap, ◌∙◌}
use Prim.Native.Nat.{ℕ, ◌+◌, ◌*◌, ◌/◌}
use native.Mathlib.Omega.{arith}
use lib.ListN.{length, length-set}
use Rattle.sequence.proofs.Sums.{dot_part_none, dot_part_two, dot_part_last}
use Rattle.jacobi.specs.Jacobi.{turn}
use Rattle.jacobi.proofs.Laws.{turn-zero, turn-length, turn_step, turn_two, end_x, end_z, products_are}
use Rattle.jacobi.proofs.turn_on.Goals as goal

pub loop-half-init : goal.loop-half-init
loop-half-init c =
    let a = c.args in
    let w = a.w.now in
    (refl, omega arith, turn-zero _ _ _ _ _, refl, dot_part_none w a.x a.x, dot_part_none w a.z a.z, dot_part_none w a.x a.z)

pub loop-half-preserved : goal.loop-half-preserved
loop-half-preserved c =
    let u = c.loop-half in
    let a = c.args in
    let l = a.w.now in
    let T = turn a.c a.s a.n a.x a.y l in
    let k = 2 * u.half in
    let long : length T ≡ length l = turn-length _ _ a.n a.x a.y l in
    let e : 2 * (u.half + 1) ≡ k + 2 = omega arith in
    let ex : a.x + k + 1 ≡ a.x + (k + 1) = omega arith in
    let ey : a.y + k + 1 ≡ a.y + (k + 1) = omega arith in
    let ez : a.z + k + 1 ≡ a.z + (k + 1) = omega arith in
    let after = turn_two _ _ k a.x a.y l u.w u.invariant.2 (omega arith) (omega arith) in
    let x₀ = end_x _ _ a.n k a.x a.y a.z l u.w u.invariant.2 (omega arith) (omega arith) (omega arith) k (omega arith) (omega arith) in
    let x₁ = end_x _ _ a.n k a.x a.y a.z l u.w u.invariant.2 (omega arith) (omega arith) (omega arith) (k + 1) (omega arith) (omega arith) in
    let z₀ = end_z _ _ a.n k a.x a.y a.z l u.w u.invariant.2 (omega arith) (omega arith) (omega arith) k (omega arith) (omega arith) in
    let z₁ = end_z _ _ a.n k a.x a.y a.z l u.w u.invariant.2 (omega arith) (omega arith) (omega arith) (k + 1) (omega arith) (omega arith) in
    let g₀ = end_z _ _ a.n (k + 2) a.x a.y a.z l _ after (omega arith) (omega arith) (omega arith) k (omega arith) (omega arith) in
    let g₁ = end_z _ _ a.n (k + 2) a.x a.y a.z l _ after (omega arith) (omega arith) (omega arith) (k + 1) (omega arith) (omega arith) in (
      u.invariant.0,
      omega arith,
      rw e after,
      simp length-set (omega arith),
      rw (e, ex, ey) (dot_part_two T a.x a.x k _ _ _ _ _ u.invariant.4 (omega arith) (omega arith) x₀ x₀ x₁ x₁),
      rw (e, ez) (dot_part_two T a.z a.z k _ _ _ _ _ u.invariant.5 (omega arith) (omega arith) z₀ z₀ z₁ z₁),
      rw (e, ez) (dot_part_two T a.x a.z k _ _ _ _ _ u.invariant.6 (omega arith) (omega arith) x₀ g₀ (rw (ex, ey) x₁) g₁),
    )

pub returns-then-k-n : goal.returns-then-k-n
returns-then-k-n c =
    let u = c.loop-half in
    let a = c.args in
    let e : 2 * u.half ≡ a.n = omega arith in
    let w = rw e at u.invariant.2 in record { turned = w; sums = products_are a.n a.x a.z _ u.w _ _ _ w (rw e at u.invariant.4) (rw e at u.invariant.5) (rw e at u.invariant.6) }

pub returns : goal.returns
returns c =
    let u = c.loop-half in
    let a = c.args in
    let l = a.w.now in
    let k = 2 * (a.n / 2) in
    let T = turn a.c a.s a.n a.x a.y l in
    let long : length T ≡ length l = turn-length _ _ a.n a.x a.y l in
    let eh : u.half ≡ a.n / 2 = omega arith in
    let en : a.n ≡ k + 1 = omega arith in
    let now = rw eh at u.invariant.2 in
    let x₀ = end_x _ _ a.n k a.x a.y a.z l u.w now (omega arith) (omega arith) (omega arith) k (omega arith) (omega arith) in
    let z₀ = end_z _ _ a.n k a.x a.y a.z l u.w now (omega arith) (omega arith) (omega arith) k (omega arith) (omega arith) in
    let done = turn_step _ _ k a.x a.y l u.w now (omega arith) (omega arith) ∙ ap (λ (j : ℕ). turn a.c a.s j a.x a.y l) (sym en) in record {
      turned = done;
      sums = products_are a.n a.x a.z T _ _ _ _ done
          (dot_part_last T a.x a.x k a.n _ _ _ en (rw eh at u.invariant.4) (omega arith) (omega arith) x₀ x₀)
          (dot_part_last T a.z a.z k a.n _ _ _ en (rw eh at u.invariant.5) (omega arith) (omega arith) z₀ z₀)
          (dot_part_last T a.x a.z k a.n _ _ _ en (rw eh at u.invariant.6) (omega arith) (omega arith) x₀ z₀);
    }
