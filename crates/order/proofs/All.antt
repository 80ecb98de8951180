-- Laws of `All`: what holds of each element of a list of columns. Assumes nothing.
use mathlib.Core.List.{List, [], ◌∷◌, ◌++◌}
use Prim.Native.Nat.{ℕ, zero, suc, ◌≤◌, ◌<◌}
use native.Mathlib.Nat.{not-suc-le-zero, le_of_suc-le-suc, zero-lt-suc}
use native.Mathlib.Omega.{arith}
use lib.ListN.{length, get_or, take, drop}
use Rattle.sequence.specs.Sequence.{table}
use Rattle.order.specs.Order.{All, AllBelow}

module _ (P : ℕ → Type 0) where
  pub all_get_d : (l : List ℕ) (i : ℕ) → All P l → i < length l → P (get_or l i 0)
  all_get_d [] i a h = absurd (not-suc-le-zero h)
  all_get_d (x ∷ xs) zero a h = a.0
  all_get_d (x ∷ xs) (suc i) a h = all_get_d xs i a.1 (le_of_suc-le-suc h)

  pub all_from : (l : List ℕ) → ((i : ℕ) → i < length l → P (get_or l i 0)) → All P l
  all_from [] f = tt
  all_from (x ∷ l) f = (f 0 (zero-lt-suc (length l)), all_from l (λ i h. f (suc i) (omega arith)))

  pub all_append : (l r : List ℕ) → All P l → All P r → All P (l ++ r)
  all_append [] r a b = b
  all_append (x ∷ l) r a b = (a.0, all_append l r a.1 b)

  pub all_take : (n : ℕ) (l : List ℕ) → All P l → All P (take n l)
  all_take zero l a = tt
  all_take (suc n) [] a = tt
  all_take (suc n) (x ∷ l) a = (a.0, all_take n l a.1)

  pub all_drop : (n : ℕ) (l : List ℕ) → All P l → All P (drop n l)
  all_drop zero l a = a
  all_drop (suc n) [] a = tt
  all_drop (suc n) (x ∷ l) a = all_drop n l a.1

pub all_le : (m n : ℕ) (l : List ℕ) → m ≤ n → AllBelow m l → AllBelow n l
all_le m n [] h a = tt
all_le m n (x ∷ l) h a = (omega (arith, a.0), all_le m n l h a.1)

pub all_up_to : (m n : ℕ) → n ≤ m → AllBelow m (table n (λ j. j))
unfolding table
all_up_to m zero h = tt
all_up_to m (suc n) h = all_append (λ x. x < m) (table n (λ j. j)) (n ∷ []) (all_up_to m n (omega arith)) (h, tt)
