-- How many sets a loop of trials tries: at most one a turn and two more, and a loop that counts its turns counts them. And what each turn
-- hands on holds where the loop ends. Assumes nothing.
use Prim.Native.Nat.{ℕ, zero, suc, ◌+◌, ◌≤◌, zero-le}
use native.Mathlib.Omega.{arith}
use mathlib.Core.Path.{◌≡◌}
use mathlib.Core.Bool.{Bool, true, false, cond}
use mathlib.Core.List.{[]}
use lib.ListN.{length, length-append}
use Rattle.best.specs.Trials.{Trials, after, proposed, tried}

either : {A : Type 0} (P : A → Type 0) (b : Bool) (x y : A) → P x → P y → P (cond b x y)
either P true x y h k = h
either P false x y h k = k

module _ {L A : Type 0} (p : Trials L A) where
  pub after_holds : (P : L → Type 0) → ((s : L) → P s → P (p.turn s)) → (k : ℕ) (s : L) → P s → P (after p k s)
  unfolding after
  after_holds P on zero s h = h
  after_holds P on (suc k) s h = either P (p.ends s) (p.turn s) (after p k (p.turn s)) (on s h) (after_holds P on k (p.turn s) (on s h))

  pub few_proposed : (k : ℕ) (s : L) → length (proposed p k s) ≤ k
  unfolding proposed
  few_proposed zero s = zero-le
  few_proposed (suc k) s = go (p.ends s) (few_proposed k (p.turn s))
    where
      go : (b : Bool) → length (proposed p k (p.turn s)) ≤ k → suc (length (cond b [] (proposed p k (p.turn s)))) ≤ suc k
      go true h = omega arith
      go false h = omega arith

  pub counts : (count : L → ℕ) → ((s : L) → count (p.turn s) ≡ count s + 1) → (k : ℕ) (s : L)
      → count (after p k s) ≡ count s + length (proposed p k s)
  unfolding after proposed
  counts count more zero s = omega arith
  counts count more (suc k) s = go (p.ends s) (counts count more k (p.turn s))
    where
      go : (b : Bool) → count (after p k (p.turn s)) ≡ count (p.turn s) + length (proposed p k (p.turn s))
          → count (cond b (p.turn s) (after p k (p.turn s))) ≡ count s + suc (length (cond b [] (proposed p k (p.turn s))))
      go true h = omega (arith, more s)
      go false h = omega (arith, more s)

  pub tried_length : (k : ℕ) (s : L) → length (tried p k s) ≡ length (proposed p k s) + 2
  unfolding tried
  tried_length k s = simp length-append (omega arith)
