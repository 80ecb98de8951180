-- The loop of trials a turn at a time, as code meets it: i turns of at most `limit` are made, and `whole` is what the loop is to come to.
-- Assumes nothing.
use Prim.Native.Nat.{ℕ, suc, ◌+◌, ◌-◌, ◌≤◌, ◌<◌}
use native.Mathlib.Nat.{sub-zero}
use native.Mathlib.Omega.{arith}
use mathlib.Core.Path.{◌≡◌, sym, ◌∙◌}
use mathlib.Core.Bool.{true, false, cond}
use Rattle.best.specs.Trials.{Trials, after}

module _ {L A : Type 0} (p : Trials L A) (limit : ℕ) where
  pub begins : (s : L) → after p limit s ≡ after p (limit - 0) s
  begins s = rw sub-zero

  pub ran_out : (whole s : L) (i : ℕ) → limit ≤ i → whole ≡ after p (limit - i) s → s ≡ whole
  unfolding after
  ran_out whole s i h inv = let e : limit - i ≡ 0 = omega arith in sym (rw e at inv)

  module _ (whole s : L) (i : ℕ) (more : i < limit) (inv : whole ≡ after p (limit - i) s) where
    one-turn : whole ≡ cond (p.ends s) (p.turn s) (after p (limit - (i + 1)) (p.turn s))
    unfolding after
    one-turn = let e : limit - i ≡ suc (limit - (i + 1)) = omega arith in rw e at inv

    pub goes_on : (t : L) → t ≡ p.turn s → p.ends s ≡ false → whole ≡ after p (limit - (i + 1)) t
    goes_on t e h = one-turn ∙ rw (h, ← e)

    pub is_left : (t : L) → t ≡ p.turn s → p.ends s ≡ true → t ≡ whole
    is_left t e h = e ∙ sym (one-turn ∙ rw h)
