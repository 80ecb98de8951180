-- What a change in one place leaves: laws of `Only`. Assumes nothing.
use Prim.Native.Nat.{ℕ, ◌+◌, ◌-◌, ◌≤◌}
use native.Mathlib.Nat.{add-sub_cancel_left}
use native.Mathlib.Omega.{arith}
use mathlib.Core.Path.{◌≡◌, refl, sym, ap, ◌∙◌}
use mathlib.Core.List.{List, ◌++◌, append_assoc}
use lib.ListN.{length, take, drop}
use lib.Seq.{sets, sets-eq, length-sets, drop-drop}
use Rattle.sequence.specs.Sequence.{part, Only}
use Rattle.sequence.proofs.Parts.{length_part, part_sets_same, part_sets_above, part_sets_below}

module _ {A : Type 0} where
  pub only_none : (x n : ℕ) (l : List A) → Only x n l l
  only_none x n l = record { long = refl; below = λ i k h. refl; above = λ i k h. refl }

  pub only_sets : (l : List A) (x n : ℕ) (vs : List A) → length vs ≤ n → Only x n l (sets l x vs)
  only_sets l x n vs h = record {
    long = length-sets l x vs;
    below = λ i k g. part_sets_below l i k x vs g;
    above = λ i k g. part_sets_above l i k x vs (omega arith);
  }

  -- within a wider place
  pub only_wider : (x n y k : ℕ) (was is : List A) → y ≤ x → x + n ≤ y + k → Only x n was is → Only y k was is
  only_wider x n y k was is h g o = record {
    long = o.long;
    below = λ i j q. o.below i j (omega arith);
    above = λ i j q. o.above i j (omega arith);
  }

  pub only_then : (x n : ℕ) (a b c : List A) → Only x n a b → Only x n b c → Only x n a c
  only_then x n a b c o p = record {
    long = p.long ∙ o.long;
    below = λ i k h. p.below i k h ∙ o.below i k h;
    above = λ i k h. p.above i k h ∙ o.above i k h;
  }

pub length_cut : {A : Type 0} (l : List A) (i n : ℕ) → i + n ≤ length l → length (take (i + n - i) (drop i l)) ≡ n
length_cut l i n h = ap (λ (k : ℕ). length (take k (drop i l))) (add-sub_cancel_left i n) ∙ length_part l i n h

-- what a list is when the n elements from i on, lent, have come back as ys
abbrev pub back : {A : Type 0} → List A → List A → ℕ → ℕ → List A
back l ys i n = take i l ++ (ys ++ drop (i + n - i) (drop i l))

module _ {A : Type 0} (l ys : List A) (i n : ℕ) (h : i + n ≤ length l) (kept : length ys ≡ length (take (i + n - i) (drop i l))) where
  pub back_long : length ys ≡ n
  back_long = kept ∙ length_cut l i n h

  back-sets : back l ys i n ≡ sets l i ys
  back-sets =
      let c : i + n - i ≡ n = add-sub_cancel_left i n in
      let e : length ys ≡ n = back_long in
      rw (c, sets-eq ys l i (omega arith), e, drop-drop n i l) (sym (append_assoc (take i l) ys (drop (i + n) l)))

  pub back_only : Only i n l (back l ys i n)
  back_only = let e : length ys ≡ n = back_long in rw back-sets (only_sets l i n ys (omega arith))

  pub back_part : part (back l ys i n) i n ≡ ys
  back_part = rw back-sets (part_sets_same l i n ys back_long h)
