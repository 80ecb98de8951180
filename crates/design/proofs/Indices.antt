-- The indices that flags keep: that they lie in range, that their flags are 0, and the loop that lists them. Assumes nothing.
use Prim.Native.Nat.{ℕ, zero, suc, ◌+◌, ◌≤◌, ◌<◌}
use native.Mathlib.Numerals.{add-one}
use native.Mathlib.Omega.{arith}
use mathlib.Core.Path.{◌≡◌, refl, sym, ap, ◌∙◌}
use mathlib.Core.Bool.{Bool, true, false, cond}
use mathlib.Core.List.{List, [], ◌∷◌, ◌++◌, append-nil}
use borrow.Author.Tests.{eq-eqb, ne_eqb}
use lib.Dec.{eqb}
use lib.ListN.{length, get_or, set, take, drop, length-set, length-append}
use lib.Seq.{drop-cons, set_at, append_snoc, take-suc, take-length, length-take-le}
use Rattle.sequence.proofs.Fills.{table-length, table_at}
use Rattle.sequence.specs.Sequence.{table}
use Rattle.design.specs.Design.{is_free, kept, up_to, collect_indices}
use Rattle.design.specs.Counted.{Below}

-- ---- 0 to n - 1

pub up_to-length : (n : ℕ) → length (up_to n) ≡ n
up_to-length n = table-length (λ i. i) n

up_to-at : (n i : ℕ) → i < n → get_or (up_to n) i 0 ≡ i
up_to-at n i h = table_at (λ j. j) n i 0 h

pub up_to_below : (n : ℕ) → Below n (up_to n)
up_to_below n i h = let l : i < n = rw (up_to-length n) at h in rw (up_to-at n i l) l

-- ---- what flags keep

module _ {A : Type 0} where
  -- one more flag, at the end
  pub kept-snoc : (fs : List ℕ) (xs : List A) (f : ℕ) (x : A) → length fs ≡ length xs
      → kept (fs ++ (f ∷ [])) (xs ++ (x ∷ [])) ≡ kept fs xs ++ cond (eqb f 0) (x ∷ []) []
  unfolding kept
  kept-snoc [] [] f x h = refl
  kept-snoc [] (y ∷ xs) f x h = absurd (omega arith)
  kept-snoc (g ∷ fs) [] f x h = absurd (omega arith)
  kept-snoc (g ∷ fs) (y ∷ xs) f x h = go (eqb g 0) (kept-snoc fs xs f x (omega arith))
    where
      more : List A
      more = kept (fs ++ (f ∷ [])) (xs ++ (x ∷ []))

      go : (b : Bool) → more ≡ kept fs xs ++ cond (eqb f 0) (x ∷ []) []
          → cond b (y ∷ more) more ≡ cond b (y ∷ kept fs xs) (kept fs xs) ++ cond (eqb f 0) (x ∷ []) []
      go true e = ap (λ l. y ∷ l) e
      go false e = e

  pub kept_few : (fs : List ℕ) (xs : List A) → length (kept fs xs) ≤ length fs
  unfolding kept
  kept_few [] xs = omega arith
  kept_few (f ∷ fs) [] = omega arith
  kept_few (f ∷ fs) (x ∷ xs) = go (eqb f 0) (kept_few fs xs)
    where
      go : (b : Bool) → length (kept fs xs) ≤ length fs → length (cond b (x ∷ kept fs xs) (kept fs xs)) ≤ suc (length fs)
      go true h = omega arith
      go false h = omega arith

-- what holds of each element whose flag is 0 holds of each that is kept
pub kept-each : {A : Type 0} (P : A → Type 0) (z : A) (fs : List ℕ) (xs : List A) → ((i : ℕ) → i < length xs → eqb (get_or fs i 0) 0 ≡ true → P (get_or xs i z))
    → (i : ℕ) → i < length (kept fs xs) → P (get_or (kept fs xs) i z)
unfolding kept
kept-each P z [] xs p i h = absurd (omega arith)
kept-each P z (f ∷ fs) [] p i h = absurd (omega arith)
kept-each P z (f ∷ fs) (x ∷ xs) p i h = go (eqb f 0) refl (kept-each P z fs xs (λ j g e. p (suc j) (omega arith) e)) i h
  where
    go : (b : Bool) → eqb f 0 ≡ b → ((j : ℕ) → j < length (kept fs xs) → P (get_or (kept fs xs) j z))
        → (j : ℕ) → j < length (cond b (x ∷ kept fs xs) (kept fs xs)) → P (get_or (cond b (x ∷ kept fs xs) (kept fs xs)) j z)
    go true e q zero g = p 0 (omega arith) e
    go true e q (suc j) g = q j (omega arith)
    go false e q j g = q j g

-- ---- the indices of flags that are 0

module _ (flags : List ℕ) where
  pub indices_few : length (collect_indices flags) ≤ length flags
  unfolding collect_indices
  indices_few = kept_few flags (up_to (length flags))

  indices-each : (i : ℕ) → i < length (collect_indices flags)
      → (get_or (collect_indices flags) i 0 < length flags) × (is_free flags (get_or (collect_indices flags) i 0) ≡ true)
  unfolding collect_indices
  indices-each =
      kept-each (λ (j : ℕ). (j < length flags) × (is_free flags j ≡ true)) 0 flags (up_to (length flags))
      (λ i h e. let l : i < length flags = rw (up_to-length (length flags)) at h in rw (up_to-at (length flags) i l) (l, e))

  pub indices_below : Below (length flags) (collect_indices flags)
  indices_below i h = (indices-each i h).0

  pub indices_free : (i : ℕ) → i < length (collect_indices flags) → is_free flags (get_or (collect_indices flags) i 0) ≡ true
  indices_free i h = (indices-each i h).1

-- ---- the loop that lists them: s, of which k places are written, after i flags

-- of the first i flags
abbrev pub indices_to : List ℕ → ℕ → List ℕ
indices_to flags i = kept (take i flags) (up_to i)

pub record Listed (flags d : List ℕ) (i k : ℕ) (s : List ℕ) : Type 0 where
  pub few : k ≤ i
  pub long : length s ≡ length d
  pub count : k ≡ length (indices_to flags i)
  pub is : s ≡ indices_to flags i ++ drop k d

module _ (flags d : List ℕ) where
  next : (i : ℕ) → i < length flags → indices_to flags (i + 1) ≡ indices_to flags i ++ cond (is_free flags i) (i ∷ []) []
  unfolding table
  next i h =
      rw (add-one i, take-suc flags i 0 h)
      (kept-snoc (take i flags) (up_to i) (get_or flags i 0) i (length-take-le i flags (omega arith) ∙ sym (up_to-length i)))

  pub start : Listed flags d 0 0 d
  unfolding kept table
  start = record { few = omega arith; long = refl; count = refl; is = refl }

  -- flag i is 0
  pub listed : (i k : ℕ) (s : List ℕ) → i < length flags → k < length d → get_or flags i 0 ≡ 0 → Listed flags d i k s → Listed flags d (i + 1) (k + 1) (set s k i)
  listed i k s h g e p =
      let U = indices_to flags i in
      let more : indices_to flags (i + 1) ≡ U ++ (i ∷ []) = next i h ∙ rw (eq-eqb (get_or flags i 0) 0 e) refl in
      record {
        few = omega (arith, p.few);
        long = length-set s k i ∙ p.long;
        count = rw (more, length-append U (i ∷ []), ← p.count) refl;
        is =
            rw (more, add-one k, p.is, drop-cons d k 0 g)
            (set_at U (get_or d k 0) (drop (suc k) d) i k (sym p.count) ∙ sym (append_snoc U i (drop (suc k) d)));
      }

  -- flag i is another number
  pub passed : (i k : ℕ) (s : List ℕ) → i < length flags → (get_or flags i 0 ≡ 0 → ⊥) → Listed flags d i k s → Listed flags d (i + 1) k s
  passed i k s h e p =
      let U = indices_to flags i in
      let same : indices_to flags (i + 1) ≡ U = next i h ∙ rw (ne_eqb (get_or flags i 0) 0 e) (append-nil U) in
      record { few = omega (arith, p.few); long = p.long; count = rw same p.count; is = rw same p.is }

  pub done : (i k : ℕ) (s : List ℕ) → i ≡ length flags → Listed flags d i k s → (k ≡ length (collect_indices flags)) × (s ≡ collect_indices flags ++ drop k d)
  unfolding collect_indices
  done i k s h p =
      let all : indices_to flags i ≡ kept flags (up_to (length flags)) = rw (h, take-length flags) refl in
      (p.count ∙ ap length all, p.is ∙ ap (λ (l : List ℕ). l ++ drop k d) all)
