-- Tests: conjunctions, a test of each element and of some index. Assumes nothing.
use Prim.Native.Nat.{ℕ, zero, suc, ◌<◌}
use native.Mathlib.Omega.{arith}
use mathlib.Core.Path.{◌≡◌, refl, sym, ◌∙◌, ap}
use mathlib.Core.Bool.{Bool, true, false, ◌&&◌, ◌||◌, false≢true}
use mathlib.Core.List.{List, [], ◌∷◌, ◌++◌}
use Rattle.sequence.specs.Sequence.{every, some}
use Rattle.sequence.proofs.Fills.{last_or}

-- ---- conjunctions

-- the parts of one that holds
pub left_of : (a b : Bool) → (a && b) ≡ true → a ≡ true
left_of true b e = refl
left_of false b e = absurd (false≢true e)

pub right_of : (a b : Bool) → (a && b) ≡ true → b ≡ true
right_of true b e = e
right_of false b e = absurd (false≢true e)

-- one whose tests are made in order
pub both : {a b : Bool} → a ≡ true → b ≡ true → (a && b) ≡ true
both e f = rw (e, f) refl

-- ---- a test of each element

pub every-snoc : {A : Type 0} (p : A → Bool) (l : List A) (x : A) → every p l ≡ true → p x ≡ true → every p (l ++ (x ∷ [])) ≡ true
every-snoc p [] x e h = rw h
every-snoc p (y ∷ l) x e h = rw (left_of (p y) (every p l) e, every-snoc p l x (right_of (p y) (every p l) e) h)

-- ---- a test of some index

module _ (p : ℕ → Bool) where
  some_more : (n : ℕ) → some n p ≡ true → some (suc n) p ≡ true
  unfolding some
  some_more n e = rw e

  pub some_last : (n : ℕ) → p n ≡ true → some (suc n) p ≡ true
  unfolding some
  some_last n t = by (some n p)
    where
      by : (b : Bool) → (b || p n) ≡ true
      by true = refl
      by false = t

  pub some_stop : (i n : ℕ) → i < n → p i ≡ true → true ≡ some n p
  some_stop i zero h t = absurd (omega arith)
  some_stop i (suc n) h t = last_or i n h (λ g. sym (some_more n (sym (some_stop i n g t)))) (λ e. sym (some_last n (ap p (sym e) ∙ t)))
