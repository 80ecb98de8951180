-- How many sweeps a factorisation makes: from 1 to 30, all 30 where the last turned a pair, and one without a turn where there is a single
-- column. Assumes nothing.
use mathlib.Core.Path.{◌≡◌, refl}
use mathlib.Core.Bool.{Bool, true, false, cond, true≢false}
use mathlib.Core.List.{List}
use Prim.Native.Nat.{ℕ, zero, suc, ◌+◌, ◌≤◌, ◌<◌}
use native.Mathlib.Omega.{arith}
use lib.Ieee.{Float}
use Rattle.sequence.specs.Sequence.{each}
use Rattle.jacobi.specs.Jacobi.{Factorised, row, sweep, sweeps, factorised, SweepsInLimit}

-- what holds of both arms holds of the arm that is taken
either : (P : Factorised → Type 0) (b : Bool) (f g : Factorised) → P f → P g → P (cond b f g)
either P true f g x y = x
either P false f g x y = y

module _ (h rows m : ℕ) where
  made-above : (n k : ℕ) (w : List Float) → k ≤ (sweeps h rows m n k w).made
  unfolding sweeps
  made-above zero k w = omega arith
  made-above (suc n) k w =
      let st = sweep h rows m w in
      either (λ f. k ≤ f.made) st.turned _ _ (omega (arith, made-above n (k + 1) st.w)) (omega arith)

  made_some : (n k : ℕ) (w : List Float) → k < (sweeps h rows m (suc n) k w).made
  unfolding sweeps
  made_some n k w =
      let st = sweep h rows m w in
      either (λ f. k < f.made) st.turned _ _ (omega (arith, made-above n (k + 1) st.w)) (omega arith)

  made-below : (n k : ℕ) (w : List Float) → (sweeps h rows m n k w).made ≤ k + n
  unfolding sweeps
  made-below zero k w = omega arith
  made-below (suc n) k w =
      let st = sweep h rows m w in
      either (λ f. f.made ≤ k + suc n) st.turned _ _ (omega (arith, made-below n (k + 1) st.w)) (omega arith)

  made_all : (n k : ℕ) (w : List Float) → (sweeps h rows m n k w).settled ≡ false → (sweeps h rows m n k w).made ≡ k + n
  unfolding sweeps
  made_all zero k w = λ e. omega arith
  made_all (suc n) k w =
      let st = sweep h rows m w in
      either (λ f. f.settled ≡ false → f.made ≡ k + suc n) st.turned _ _ (λ e. omega (arith, made_all n (k + 1) st.w e)) (λ e. absurd (true≢false e))

  pub at_most_30 : (w : List Float) → (factorised h rows m w).made ≤ 30
  at_most_30 w = made-below 30 0 w

  pub all_30 : (w : List Float) → (factorised h rows m w).settled ≡ false → (factorised h rows m w).made ≡ 30
  all_30 w e = made_all 30 0 w e

  pub in_limit : (w : List Float) → SweepsInLimit (factorised h rows m w).made (factorised h rows m w).settled
  in_limit w = record { some = omega (arith, made_some 29 0 w); most = at_most_30 w; fewer = by (factorised h rows m w).settled refl }
    where
      by : (b : Bool) → (factorised h rows m w).settled ≡ b → (factorised h rows m w).made < 30 → b ≡ true
      by true e below = refl
      by false e below = absurd (omega (arith, all_30 w e, below))

pub one_column : (h rows : ℕ) (w : List Float) → factorised h rows 1 w ≡ record { w = w; made = 1; settled = true }
unfolding sweeps sweep row each
one_column h rows w = refl
