-- A loop that combines two runs of n numbers, index by index, into a run of the same list. Assumes nothing.
use Prim.Native.Nat.{ℕ, ◌+◌, ◌≤◌, ◌<◌}
use native.Mathlib.Nat.{le_antisymm}
use native.Mathlib.Numerals.{add-one}
use native.Mathlib.Omega.{arith}
use mathlib.Core.Path.{◌≡◌, refl, sym, ap, ◌∙◌}
use mathlib.Core.Logic.{inl, inr}
use mathlib.Core.List.{List, zip_with}
use lib.ListN.{length, set, length-set}
use lib.Seq.{sets}
use lib.Ieee.{Float, nan}
use Rattle.sequence.specs.Sequence.{part, at, Beside}
use Rattle.sequence.proofs.Parts.{zip-part, length_zip_part, sets-snoc, get_d_sets_below, get_d_sets_above}

beside_at : (l : List Float) (t : ℕ) (vs : List Float) (p n : ℕ) → length vs < n → Beside t p n → at (sets l t vs) (p + length vs) ≡ at l (p + length vs)
beside_at l t vs p n h (inl g) = get_d_sets_above l t vs (p + length vs) nan (omega arith)
beside_at l t vs p n h (inr g) = get_d_sets_below l t vs (p + length vs) nan (omega arith)

-- from t on, f of the k numbers from p on and those from q on
abbrev pub combined : (Float → Float → Float) → List Float → ℕ → ℕ → ℕ → ℕ → List Float
combined f l t p q k = sets l t (zip_with f (part l p k) (part l q k))

-- after k numbers
pub record Combining (f : Float → Float → Float) (l : List Float) (t p q n k : ℕ) (w : List Float) : Type 0 where
  pub few : k ≤ n
  pub long : length w ≡ length l
  pub is : w ≡ combined f l t p q k

module _ (f : Float → Float → Float) (l : List Float) (t p q n : ℕ) where
  pub start : Combining f l t p q n 0 l
  unfolding zip_with
  start = record { few = omega arith; long = refl; is = refl }

  pub next : (k : ℕ) (w : List Float) → p + n ≤ length l → q + n ≤ length l → Beside t p n → Beside t q n → k < n → Combining f l t p q n k w
      → Combining f l t p q n (k + 1) (set w (t + k) (f (at w (p + k)) (at w (q + k))))
  next k w hp hq cp cq h c =
      let F = zip_with f (part l p k) (part l q k) in
      let v = f (at l (p + k)) (at l (q + k)) in
      let m : length F ≡ k = length_zip_part f l p q k (omega arith) (omega arith) in
      let ep : at (sets l t F) (p + k) ≡ at l (p + k) = rw m at (beside_at l t F p n (omega arith) cp) in
      let eq : at (sets l t F) (q + k) ≡ at l (q + k) = rw m at (beside_at l t F q n (omega arith) cq) in
      record {
        few = omega arith;
        long = length-set w (t + k) (f (at w (p + k)) (at w (q + k))) ∙ c.long;
        is =
            rw (c.is, ep, eq, add-one k, zip-part f l p q k (omega arith) (omega arith))
            (sym (sets-snoc l t F v ∙ ap (λ (i : ℕ). set (sets l t F) (t + i) v) m));
      }

  pub end : (k : ℕ) (w : List Float) → n ≤ k → Combining f l t p q n k w → w ≡ combined f l t p q n
  end k w h c = c.is ∙ ap (λ (i : ℕ). combined f l t p q i) (le_antisymm c.few h)
