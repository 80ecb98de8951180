-- Lists as loops read and write them: tests, parts, tables, passes over indices, and sums from 0 in rising index. Definitions only.
use Rattle.std.specs.Prelude.{ℕ, zero, suc, ◌+◌, ◌≤◌, ◌⊎◌, ◌≡◌, Bool, true, false, ◌&&◌, ◌||◌, cond, length, take, drop, get_or, Float}
use mathlib.Core.List.{List, [], ◌∷◌, ◌++◌, zip_with, foldl}
use Rattle.std.specs.Float.{nan, binary64}
use Rattle.std.specs.Float.Ieee.{add, mul}
use Rattle.float.specs.Float.{#0, ◌⊕◌}

-- whether a test holds of each element
abbrev pub every : {A : Type 0} → (A → Bool) → List A → Bool
every p [] = true
every p (x ∷ xs) = p x && every p xs

-- whether a test holds of one of 0 to n - 1
unfoldable pub some : ℕ → (ℕ → Bool) → Bool
some zero p = false
some (suc n) p = some n p || p n

-- the n elements from index i on
abbrev pub part : {A : Type 0} → List A → ℕ → ℕ → List A
part l i n = take n (drop i l)

-- the number at i
abbrev pub at : List Float → ℕ → Float
at l i = get_or l i nan

-- f 0 to f (n - 1)
unfoldable pub table : {A : Type 0} → ℕ → (ℕ → A) → List A
table zero f = []
table (suc n) f = table n f ++ (f n ∷ [])

-- the lists f 0 to f (n - 1), one after the other
unfoldable pub concat_to : {A : Type 0} → ℕ → (ℕ → List A) → List A
concat_to zero f = []
concat_to (suc n) f = concat_to n f ++ f n

-- d with f 0 to f (n - 1) in its first n places: a longer buffer keeps its tail
unfoldable pub filled : {A : Type 0} → ℕ → (ℕ → A) → List A → List A
filled n f d = table n f ++ drop n d

-- `each n i f s`: f at i, i + 1 and so on, n of them, one after the other
unfoldable pub each : {S : Type 0} → ℕ → ℕ → (ℕ → S → S) → S → S
each zero i f s = s
each (suc n) i f s = each n (suc i) f (f i s)

-- f 0 + .. + f (n - 1), from 0 in rising index
unfoldable pub sum_to : ℕ → (ℕ → Float) → Float
sum_to zero f = #0
sum_to (suc n) f = sum_to n f ⊕ f n

-- the same without the indices that `skip` names
unfoldable pub sum_but : ℕ → (ℕ → Bool) → (ℕ → Float) → Float
sum_but zero skip f = #0
sum_but (suc n) skip f = cond (skip n) (sum_but n skip f) (sum_but n skip f ⊕ f n)

-- the sum of the products
unfoldable pub dot : List Float → List Float → Float
dot xs ys = foldl (add binary64) #0 (zip_with (mul binary64) xs ys)

-- n numbers from x on can be written one by one while those from y on are read
abbrev pub Beside : ℕ → ℕ → ℕ → Type 0
Beside x y n = (x ≤ y) ⊎ (y + n ≤ x)

-- of `was`, nothing but the n elements from x on has changed in `is`
pub record Only {A : Type 0} (x n : ℕ) (was is : List A) : Type 0 where
  pub long : length is ≡ length was
  pub below : (i k : ℕ) → i + k ≤ x → part is i k ≡ part was i k
  pub above : (i k : ℕ) → x + n ≤ i → part is i k ≡ part was i k
