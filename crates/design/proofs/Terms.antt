-- What one term's turn makes of the vector behind a column's room, and the loops over the terms. Assumes nothing.
use Prim.Native.Nat.{ℕ, ◌+◌, ◌-◌, ◌≤◌, ◌<◌}
use native.Mathlib.Omega.{arith}
use mathlib.Core.Path.{◌≡◌, refl, sym, ap, ◌∙◌}
use mathlib.Core.Logic.{⊎_elim}
use mathlib.Core.Bool.{Bool, true, false, cond}
use mathlib.Core.List.{List, ◌++◌, zip_with}
use lib.ListN.{length, take, drop, replicate, length-replicate}
use lib.Seq.{sets, length-take-le, take_at, drop_at}
use lib.Ieee.{Float, lt}
use Rattle.float.specs.Float.{#0}
use Rattle.sequence.specs.Sequence.{part, each, Only}
use Rattle.sequence.proofs.Parts.{length_part, part_sets_same, length-zip, length_zip_part}
use Rattle.sequence.proofs.Fills.{each_none, each_next, each_end}
use Rattle.sequence.proofs.Only.{only_sets, only_wider, only_then, back, back_long, back_only, back_part}
use Rattle.terms.specs.declared.Term.{Term}
use Rattle.design.specs.Design.{weighed, weighing}
use Rattle.design.specs.Counted.{Apart}

-- ---- one term's turn

-- the n numbers behind the first n have been combined with a column a that was written there
pub combines : (f : Float → Float → Float) (v w w' a : List Float) (n : ℕ) → n + n ≤ length v → part w 0 n ≡ a → Only 0 n v w
    → w' ≡ sets w n (zip_with f (part w n n) (part w 0 n)) → (part w' n n ≡ zip_with f (part v n n) a) × Only 0 (n + n) v w'
combines f v w w' a n room there only e =
    let z = zip_with f (part v n n) a in
    let fits : n + n ≤ length w = rw only.long room in
    let old : part w n n ≡ part v n n = only.above n n (omega arith) in
    let count : length z ≡ n = rw (there, old) at (length_zip_part f w n 0 n fits (omega arith)) in
    let q : w' ≡ sets w n z = rw (there, old) at e in
    let first : Only 0 (n + n) v w = only_wider 0 n 0 (n + n) v w (omega arith) (omega arith) only in
    let then : Only 0 (n + n) w (sets w n z) = only_wider n n 0 (n + n) w (sets w n z) (omega arith) (omega arith) (only_sets w n n z (omega arith)) in
    rw q (part_sets_same w n n z count fits, only_then 0 (n + n) v w (sets w n z) first then)

-- the same, where the column came back in the first n
pub turns : (f : Float → Float → Float) (v ys w a : List Float) (n : ℕ) → n + n ≤ length v → length ys ≡ length (take n v) → ys ≡ a
    → w ≡ sets (ys ++ drop n v) n (zip_with f (part (ys ++ drop n v) n n) (part (ys ++ drop n v) 0 n)) → part w n n ≡ zip_with f (part v n n) a
turns f v ys w a n room kept is e =
    let first : 0 + n ≤ length v = omega arith in
    let z : 0 + n - 0 ≡ n = omega arith in
    let k : length ys ≡ length (take (0 + n - 0) v) = rw z kept in
    (combines f v (ys ++ drop n v) w a n room (rw z at (back_part v ys 0 n first k) ∙ is) (rw z at (back_only v ys 0 n first k)) e).0

-- ---- Huber weights

pub weighing_long : (k : Float) (b a : List Float) → length b ≡ length a → length (weighing k b a) ≡ length a
unfolding weighing
weighing_long k b a e = go (lt #0 k)
  where
    go : (t : Bool) → length (cond t (zip_with (weighed k) b a) a) ≡ length a
    go true = length-zip (weighed k) b a e ∙ e
    go false = refl

-- a column a has been written at x and weighed by the residuals at y
pub weighs : (k : Float) (w ys w' a : List Float) (x n y : ℕ) → Apart x n y → x + n ≤ length w → y + n ≤ length w
    → length ys ≡ length (take (x + n - x) (drop x w)) → ys ≡ a → w' ≡ sets (back w ys x n) x (weighing k (part (back w ys x n) y n) (part (back w ys x n) x n))
    → (part w' x n ≡ weighing k (part w y n) a) × Only x n w w'
weighs k w ys w' a x n y apart room room' kept is e =
    let u = back w ys x n in
    let z = weighing k (part w y n) a in
    let only : Only x n w u = back_only w ys x n room kept in
    let there : part u x n ≡ a = back_part w ys x n room kept ∙ is in
    let old : part u y n ≡ part w y n = ⊎_elim (λ h. only.above y n h) (λ h. only.below y n h) apart in
    let q : w' ≡ sets u x z = rw (there, old) at e in
    let long : length a ≡ n = ap length (sym is) ∙ back_long w ys x n room kept in
    let count : length z ≡ n = weighing_long k (part w y n) a (length_part w y n room' ∙ sym long) ∙ long in
    let fits : x + n ≤ length u = rw only.long room in
    rw q (part_sets_same u x n z count fits, only_then x n w u (sets u x z) only (only_sets u x n z (omega arith)))

-- ---- loops over terms

-- the n numbers behind the first n, which end at e, have been made zeros
pub zeroed : (v ys : List Float) (n e : ℕ) → e ≡ n + n → e ≤ length v → ys ≡ replicate (length (take (e - n) (drop n v))) #0
    → part (take n v ++ (ys ++ drop (e - n) (drop n v))) n n ≡ replicate n #0
zeroed v ys n e end room is =
    let k : e - n ≡ n = omega arith in
    let zeros : ys ≡ replicate n #0 = rw (k, length_part v n n (omega arith)) at is in
    let long : length ys ≡ n = ap length zeros ∙ length-replicate n #0 in
    let rest = drop (e - n) (drop n v) in
    ap (take n) (drop_at (take n v) (ys ++ rest) n (length-take-le n v (omega arith))) ∙ take_at ys rest n long ∙ zeros

module _ (skip : Float → Bool) (f : Float → List Float → List Float → List Float) (c : ℕ → Float) (a : Term → List Float) (term : ℕ → Term) where
  -- what is done for term j, whose coefficient is c j
  abbrev pub step : ℕ → List Float → List Float
  step j b = cond (skip (c j)) b (f (c j) b (a (term j)))

  -- it is done for j of m terms, to the n numbers behind the first n
  pub record Turned (n m : ℕ) (v₀ v : List Float) (j : ℕ) : Type 0 where
    pub low : j ≤ m
    pub long : length v ≡ length v₀
    pub is : part v n n ≡ each j 0 step (part v₀ n n)

module _ {skip : Float → Bool} {f : Float → List Float → List Float → List Float} {c : ℕ → Float} {a : Term → List Float} {term : ℕ → Term} {n m : ℕ} where
  pub turned_none : {v : List Float} → Turned skip f c a term n m v v 0
  turned_none {v} = record { low = omega arith; long = refl; is = each_none (step skip f c a term) (part v n n) }

  module _ {v₀ v : List Float} {j : ℕ} (t : Turned skip f c a term n m v₀ v j) where
    next : (w : List Float) → j < m → length w ≡ length v → part w n n ≡ step skip f c a term j (part v n n) → Turned skip f c a term n m v₀ w (j + 1)
    next w l k e =
        record { low = omega arith; long = k ∙ t.long; is = each_next j (step skip f c a term) (part v₀ n n) (part v n n) (part w n n) t.is e }

    pub turned_next : (w : List Float) (x : Term) → j < m → skip (c j) ≡ false → length w ≡ length v → x ≡ term j
        → part w n n ≡ f (c j) (part v n n) (a x) → Turned skip f c a term n m v₀ w (j + 1)
    turned_next w x l h k is e = next w l k (rw (h, ← is) e)

    pub turned_still : j < m → skip (c j) ≡ true → Turned skip f c a term n m v₀ v (j + 1)
    turned_still l h = next v l refl (rw h)

    pub turned_end : m ≤ j → part v n n ≡ each m 0 (step skip f c a term) (part v₀ n n)
    turned_end h = each_end j m (step skip f c a term) (part v₀ n n) (part v n n) t.low h t.is
