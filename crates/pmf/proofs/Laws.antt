-- The front of an array, lent and filled. Assumes nothing.
use Prim.Native.Nat.{ℕ, ◌≤◌}
use native.Mathlib.Omega.{arith}
use mathlib.Core.Path.{◌≡◌, refl, sym, ap, ◌∙◌}
use mathlib.Core.List.{List, ◌++◌}
use lib.ListN.{length, take, drop}
use lib.Seq.{take_at}
use Rattle.sequence.specs.Sequence.{table}
use Rattle.sequence.proofs.Fills.{table-length, filled_all, Filling, filling_end}

module _ {A : Type 0} (f : ℕ → A) where
  -- the first n places, filled with a table
  pub lent_front : {k : ℕ} (n : ℕ) (d ys : List A) → ys ≡ table k f → k ≡ n → take n (ys ++ drop n d) ≡ table n f
  lent_front n d ys e h =
      let is : ys ≡ table n f = e ∙ ap (λ (i : ℕ). table i f) h in
      take_at ys (drop n d) n (ap length is ∙ table-length f n) ∙ is

  -- the same at the end of a loop that fills them
  pub lent_filled : {i : ℕ} {front ys : List A} (n : ℕ) (d : List A) → length front ≡ n → Filling f front n i ys → n ≤ i → take n (ys ++ drop n d) ≡ table n f
  lent_filled {i} {front} {ys} n d h p e = lent_front n d ys (filling_end p e ∙ filled_all f n front (omega arith)) refl
