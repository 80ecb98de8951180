-- Lists one after the other: a loop that makes them. Assumes nothing.
use Prim.Native.Nat.{ℕ, zero, suc, ◌+◌, ◌*◌}
use native.Mathlib.Numerals.{add-one}
use native.Mathlib.Omega.{arith}
use mathlib.Core.Path.{◌≡◌, refl, ◌∙◌}
use mathlib.Core.List.{List, [], ◌++◌}
use lib.ListN.{length, length-append}
use Rattle.sequence.specs.Sequence.{concat_to}

module _ {A : Type 0} (f : ℕ → List A) where
  pub concat_none : [] ≡ concat_to 0 f
  unfolding concat_to
  concat_none = refl

  pub concat_next : (n : ℕ) → concat_to n f ++ f n ≡ concat_to (n + 1) f
  unfolding concat_to
  concat_next n = rw (add-one n)

  -- where each has k elements
  module _ (k : ℕ) (sized : (i : ℕ) → length (f i) ≡ k) where
    pub concat_length : (n : ℕ) → length (concat_to n f) ≡ k * n
    unfolding concat_to
    concat_length zero = omega arith
    concat_length (suc n) = length-append (concat_to n f) (f n) ∙ rw (concat_length n, sized n) (omega arith)
