-- Names that are none of the fixed ones, by their lengths and bytes. Assumes nothing.
use Prim.Native.Nat.{ℕ, ◌≤◌, ◌<◌}
use native.Mathlib.Omega.{arith}
use mathlib.Core.Path.{◌≡◌, refl, ap, ap₂}
use mathlib.Core.Logic.{◌⊎◌, inl, inr}
use mathlib.Core.Bool.{Bool, true, false, ◌&&◌, and-false}
use mathlib.Core.List.{List, [], ◌∷◌}
use lib.ListN.{length, get_or}
use lib.Dec.{eqb}
use borrow.Author.Tests.{ne_eqb, eqb-true}
use Rattle.std.specs.Prelude.{None}
use Rattle.terms.specs.Names.{fixed_names, find, same}

-- texts that differ
apart : (a b : List ℕ) → (a ≡ b → ⊥) → same a b ≡ false
apart [] [] h = absurd (h refl)
apart [] (y ∷ b) h = refl
apart (x ∷ a) [] h = refl
apart (x ∷ a) (y ∷ b) h = by (eqb x y) refl (apart a b)
  where
    by : (t : Bool) → eqb x y ≡ t → ((a ≡ b → ⊥) → same a b ≡ false) → (t && same a b) ≡ false
    by true e later = later (λ q. h (ap₂ (λ (u : ℕ) (v : List ℕ). u ∷ v) (eqb-true x y e) q))
    by false e later = refl

pub short : (n : List ℕ) → length n < 2 → None ≡ find fixed_names n
short [] h = refl
short (a ∷ []) h = simp and-false
short (a ∷ b ∷ n) h = absurd (omega arith)

pub long : (n : List ℕ) → 5 ≤ length n → None ≡ find fixed_names n
long [] h = absurd (omega arith)
long (a ∷ []) h = absurd (omega arith)
long (a ∷ b ∷ []) h = absurd (omega arith)
long (a ∷ b ∷ c ∷ []) h = absurd (omega arith)
long (a ∷ b ∷ c ∷ d ∷ []) h = absurd (omega arith)
long (a ∷ b ∷ c ∷ d ∷ e ∷ n) h = simp and-false

pub two : (n : List ℕ) → length n ≡ 2 → (get_or n 0 0 ≡ 73 → ⊥) → (get_or n 0 0 ≡ 67 → ⊥) → (get_or n 0 0 ≡ 78 → ⊥) → (get_or n 0 0 ≡ 77 → ⊥)
    → (get_or n 0 0 ≡ 84 → ⊥) → (get_or n 0 0 ≡ 70 → ⊥) → (get_or n 0 0 ≡ 65 → ⊥) → None ≡ find fixed_names n
two [] l i c n m t f a = absurd (omega arith)
two (x ∷ []) l i c n m t f a = absurd (omega arith)
two (x ∷ y ∷ z ∷ u) l i c n m t f a = absurd (omega arith)
two (x ∷ y ∷ []) l i c n m t f a =
    simp (ne_eqb x 73 i, ne_eqb x 67 c, ne_eqb x 78 n, ne_eqb x 77 m, ne_eqb x 84 t, ne_eqb x 70 f, ne_eqb x 65 a, and-false)

pub three : (n : List ℕ) → length n ≡ 3 → (get_or n 0 0 ≡ 68 → get_or n 1 0 ≡ 65 → get_or n 2 0 ≡ 70 → ⊥) → None ≡ find fixed_names n
three [] l h = absurd (omega arith)
three (x ∷ []) l h = absurd (omega arith)
three (x ∷ y ∷ []) l h = absurd (omega arith)
three (x ∷ y ∷ z ∷ w ∷ u) l h = absurd (omega arith)
three (x ∷ y ∷ z ∷ []) l h =
    let daf = apart (x ∷ y ∷ z ∷ []) (68 ∷ 65 ∷ 70 ∷ []) (λ e. h (ap (λ n. get_or n 0 0) e) (ap (λ n. get_or n 1 0) e) (ap (λ n. get_or n 2 0) e)) in
    simp (daf, and-false)

pub four : (n : List ℕ) → length n ≡ 4 → (get_or n 0 0 ≡ 72 → get_or n 1 0 ≡ 67 → get_or n 2 0 ≡ 69 → (get_or n 3 0 ≡ 83) ⊎ (get_or n 3 0 ≡ 67) → ⊥)
    → (get_or n 0 0 ≡ 68 → get_or n 1 0 ≡ 67 → get_or n 2 0 ≡ 69 → (get_or n 3 0 ≡ 83) ⊎ (get_or n 3 0 ≡ 67) → ⊥)
    → (get_or n 0 0 ≡ 78 → get_or n 1 0 ≡ 80 → get_or n 2 0 ≡ 65 → get_or n 3 0 ≡ 69 → ⊥) → None ≡ find fixed_names n
four [] l h d m = absurd (omega arith)
four (x ∷ []) l h d m = absurd (omega arith)
four (x ∷ y ∷ []) l h d m = absurd (omega arith)
four (x ∷ y ∷ z ∷ []) l h d m = absurd (omega arith)
four (x ∷ y ∷ z ∷ w ∷ v ∷ u) l h d m = absurd (omega arith)
four (x ∷ y ∷ z ∷ w ∷ []) l h d m =
    let n = x ∷ y ∷ z ∷ w ∷ [] in
    let hces = apart n (72 ∷ 67 ∷ 69 ∷ 83 ∷ []) (λ e. h (ap (λ n. get_or n 0 0) e) (ap (λ n. get_or n 1 0) e) (ap (λ n. get_or n 2 0) e) (inl (ap (λ n. get_or n 3 0) e))) in
    let hcec = apart n (72 ∷ 67 ∷ 69 ∷ 67 ∷ []) (λ e. h (ap (λ n. get_or n 0 0) e) (ap (λ n. get_or n 1 0) e) (ap (λ n. get_or n 2 0) e) (inr (ap (λ n. get_or n 3 0) e))) in
    let dces = apart n (68 ∷ 67 ∷ 69 ∷ 83 ∷ []) (λ e. d (ap (λ n. get_or n 0 0) e) (ap (λ n. get_or n 1 0) e) (ap (λ n. get_or n 2 0) e) (inl (ap (λ n. get_or n 3 0) e))) in
    let dcec = apart n (68 ∷ 67 ∷ 69 ∷ 67 ∷ []) (λ e. d (ap (λ n. get_or n 0 0) e) (ap (λ n. get_or n 1 0) e) (ap (λ n. get_or n 2 0) e) (inr (ap (λ n. get_or n 3 0) e))) in
    let npae = apart n (78 ∷ 80 ∷ 65 ∷ 69 ∷ []) (λ e. m (ap (λ n. get_or n 0 0) e) (ap (λ n. get_or n 1 0) e) (ap (λ n. get_or n 2 0) e) (ap (λ n. get_or n 3 0) e)) in
    simp (hces, hcec, dces, dcec, npae, and-false)
