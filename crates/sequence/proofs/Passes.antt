-- A loop over the indices below m, each turn of which changes a list and keeps its length. Assumes nothing.
use Prim.Native.Nat.{ℕ, ◌+◌, ◌-◌, ◌≤◌, ◌<◌}
use native.Mathlib.Omega.{arith}
use mathlib.Core.Path.{◌≡◌, refl, ap, ◌∙◌}
use mathlib.Core.List.{List, ◌++◌}
use lib.ListN.{length, take, drop}
use lib.Seq.{sets, length-sets}
use Rattle.sequence.specs.Sequence.{part, each}
use Rattle.sequence.proofs.Parts.{lent_back}
use Rattle.sequence.proofs.Fills.{each_none, each_next, each_end}

-- after the turns below j
pub record Passing {A : Type 0} (f : ℕ → List A → List A) (d : List A) (m j : ℕ) (w : List A) : Type 0 where
  pub few : j ≤ m
  pub long : length w ≡ length d
  pub is : w ≡ each j 0 f d

module _ {A : Type 0} {f : ℕ → List A → List A} {d : List A} {m : ℕ} where
  pub passing_start : Passing f d m 0 d
  passing_start = record { few = omega arith; long = refl; is = each_none f d }

  module _ {j : ℕ} {w : List A} (p : Passing f d m j w) where
    passing-next : (v : List A) → j < m → length v ≡ length w → v ≡ f j w → Passing f d m (j + 1) v
    passing-next v h k e = record { few = omega arith; long = k ∙ p.long; is = each_next j f d w v p.is e }

    -- a turn that lends the n elements from x on, which come back as g of what they were
    pub passing_lent : (g : List A → List A) → ((l : List A) → length (g l) ≡ length l) → (x n : ℕ) (ys : List A) → j < m → x + n ≤ length w
        → ys ≡ g (part w x (x + n - x))
        → sets w x (g (part w x n)) ≡ f j w → Passing f d m (j + 1) (take x w ++ (ys ++ drop (x + n - x) (drop x w)))
    passing_lent g keeps x n ys h room e q =
        let back = lent_back g keeps w ys x n room e in
        passing-next _ h (ap length back ∙ length-sets w x (g (part w x n))) (back ∙ q)

    pub passing_end : m ≤ j → w ≡ each m 0 f d
    passing_end h = each_end j m f d w p.few h p.is
