-- The rows of a list of stars, read by their places, and lists of stars that have the same rows. Assumes nothing.
use Prim.Native.Nat.{ℕ, zero, suc, ◌+◌, ◌*◌, ◌≤◌, ◌<◌}
use native.Mathlib.Omega.{arith}
use mathlib.Core.Path.{◌≡◌, refl, sym, ap, ◌∙◌}
use mathlib.Core.List.{List, [], ◌∷◌, ◌++◌, map, zip_with, map-append}
use lib.ListN.{length, get_or, set, take, length-map}
use lib.Seq.{take-suc, take-length}
use lib.Ieee.{Float, nan}
use Rattle.float.specs.Float.{◌⊗◌}
use Rattle.sequence.specs.Sequence.{at, concat_to}
use Rattle.sequence.proofs.Parts.{zip-at}
use Rattle.sequence.proofs.Partway.{Partway, start, pair, end}
use Rattle.observation.specs.declared.Pair.{Pair}
use Rattle.design.specs.Design.{Star, rows, pairs, sky_rows, cos_dec}

pub rows-length : (f g : Star → Float) (ss : List Star) → length (rows f g ss) ≡ 2 * length ss
unfolding rows
rows-length f g [] = refl
rows-length f g (s ∷ ss) = ap (λ (n : ℕ). suc (suc n)) (rows-length f g ss) ∙ omega arith

rows_append : (f g : Star → Float) (xs ys : List Star) → rows f g (xs ++ ys) ≡ rows f g xs ++ rows f g ys
unfolding rows
rows_append f g [] ys = refl
rows_append f g (x ∷ xs) ys = ap (λ (l : List Float). f x ∷ g x ∷ l) (rows_append f g xs ys)

-- rows whose hour angle is taken times cos dec afterwards
pub sky_rows_of : (f g : Star → Float) (ss : List Star) → sky_rows ss (rows f g ss) ≡ rows (λ s. f s ⊗ cos_dec s.sheet) g ss
unfolding rows sky_rows
sky_rows_of f g [] = refl
sky_rows_of f g (s ∷ ss) = ap (λ (l : List Float). (f s ⊗ cos_dec s.sheet) ∷ g s ∷ l) (sky_rows_of f g ss)

pub sky_rows-length : (ss : List Star) (b : List Float) → length b ≡ 2 * length ss → length (sky_rows ss b) ≡ length b
unfolding sky_rows
sky_rows-length [] [] h = refl
sky_rows-length [] (x ∷ b) h = absurd (omega arith)
sky_rows-length (s ∷ ss) [] h = absurd (omega arith)
sky_rows-length (s ∷ ss) (x ∷ []) h = absurd (omega arith)
sky_rows-length (s ∷ ss) (x ∷ y ∷ b) h = ap (λ (n : ℕ). suc (suc n)) (sky_rows-length ss b (omega arith))

-- ---- the stars at indices

module _ (star : ℕ → Star) where
  module _ (f g : Star → Float) where
    pub count : (us : List ℕ) → length (rows f g (map star us)) ≡ 2 * length us
    count us = rows-length f g (map star us) ∙ rw (length-map us star) refl

    rows-to : (us : List ℕ) (n : ℕ) → n ≤ length us
        → rows f g (map star (take n us)) ≡ concat_to n (λ i. f (star (get_or us i 0)) ∷ g (star (get_or us i 0)) ∷ [])
    unfolding rows concat_to
    rows-to us zero h = refl
    rows-to us (suc n) h =
        let u = get_or us n 0 in
        rw (take-suc us n 0 h, map-append star (take n us) (u ∷ []), rows_append f g (map star (take n us)) (star u ∷ []), rows-to us n (omega arith)) refl

    -- by the numbers of the stars
    pub star_by_star : (us : List ℕ) → rows f g (map star us) ≡ concat_to (length us) (λ i. f (star (get_or us i 0)) ∷ g (star (get_or us i 0)) ∷ [])
    star_by_star us = rw take-length at (rows-to us (length us) (omega arith))

    pub hour : (us : List ℕ) (r : ℕ) → r < length us → f (star (get_or us r 0)) ≡ at (rows f g (map star us)) (2 * r)
    unfolding rows
    hour [] r h = absurd (omega arith)
    hour (u ∷ us) zero h = refl
    hour (u ∷ us) (suc r) h =
        let two : 2 * suc r ≡ suc (suc (2 * r)) = omega arith in
        rw two (hour us r (omega arith))

    pub dec : (us : List ℕ) (r : ℕ) → r < length us → g (star (get_or us r 0)) ≡ at (rows f g (map star us)) (2 * r + 1)
    unfolding rows
    dec [] r h = absurd (omega arith)
    dec (u ∷ us) zero h = refl
    dec (u ∷ us) (suc r) h =
        let two : 2 * suc r + 1 ≡ suc (suc (2 * r + 1)) = omega arith in
        rw two (dec us r (omega arith))

    pub zip-hour : (op : Float → Float → Float) (us : List ℕ) (b : List Float) (r : ℕ) → length b ≡ 2 * length us → r < length us
        → op (f (star (get_or us r 0))) (at b (2 * r)) ≡ at (zip_with op (rows f g (map star us)) b) (2 * r)
    zip-hour op us b r e h =
        let n : length (rows f g (map star us)) ≡ 2 * length us = count us in
        ap (λ (x : Float). op x (at b (2 * r))) (hour us r h) ∙ zip-at op (rows f g (map star us)) b (2 * r) (e ∙ sym n) (omega arith)

    pub zip-dec : (op : Float → Float → Float) (us : List ℕ) (b : List Float) (r : ℕ) → length b ≡ 2 * length us → r < length us
        → op (g (star (get_or us r 0))) (at b (2 * r + 1)) ≡ at (zip_with op (rows f g (map star us)) b) (2 * r + 1)
    zip-dec op us b r e h =
        let n : length (rows f g (map star us)) ≡ 2 * length us = count us in
        ap (λ (x : Float). op x (at b (2 * r + 1))) (dec us r h) ∙ zip-at op (rows f g (map star us)) b (2 * r + 1) (e ∙ sym n) (omega arith)

  pub sky_hour : (us : List ℕ) (b : List Float) (r : ℕ) → length b ≡ 2 * length us → r < length us
      → at (sky_rows (map star us) b) (2 * r) ≡ at b (2 * r) ⊗ cos_dec (star (get_or us r 0)).sheet
  unfolding sky_rows
  sky_hour [] b r h i = absurd (omega arith)
  sky_hour (u ∷ us) [] r h i = absurd (omega arith)
  sky_hour (u ∷ us) (x ∷ []) r h i = absurd (omega arith)
  sky_hour (u ∷ us) (x ∷ y ∷ b) zero h i = refl
  sky_hour (u ∷ us) (x ∷ y ∷ b) (suc r) h i =
      let two : 2 * suc r ≡ suc (suc (2 * r)) = omega arith in
      rw two (sky_hour us b r (omega arith) (omega arith))

  pub sky_dec : (us : List ℕ) (b : List Float) (r : ℕ) → length b ≡ 2 * length us → r < length us → at (sky_rows (map star us) b) (2 * r + 1) ≡ at b (2 * r + 1)
  unfolding sky_rows
  sky_dec [] b r h i = absurd (omega arith)
  sky_dec (u ∷ us) [] r h i = absurd (omega arith)
  sky_dec (u ∷ us) (x ∷ []) r h i = absurd (omega arith)
  sky_dec (u ∷ us) (x ∷ y ∷ b) zero h i = refl
  sky_dec (u ∷ us) (x ∷ y ∷ b) (suc r) h i =
      let two : 2 * suc r + 1 ≡ suc (suc (2 * r + 1)) = omega arith in
      rw two (sky_dec us b r (omega arith) (omega arith))

  -- ---- rows that read nothing in which two stars differ

  pub rows_same : (f g : Star → Float) (other : ℕ → Star) → ((i : ℕ) → f (star i) ≡ f (other i)) → ((i : ℕ) → g (star i) ≡ g (other i)) → (us : List ℕ)
      → rows f g (map star us) ≡ rows f g (map other us)
  unfolding rows
  rows_same f g other p q [] = refl
  rows_same f g other p q (u ∷ us) = rw (p u, q u, rows_same f g other p q us)

  pub sky_same : (other : ℕ → Star) → ((i : ℕ) → (star i).sheet ≡ (other i).sheet) → (us : List ℕ) (b : List Float)
      → sky_rows (map star us) b ≡ sky_rows (map other us) b
  unfolding sky_rows
  sky_same other p [] b = refl
  sky_same other p (u ∷ us) [] = refl
  sky_same other p (u ∷ us) (x ∷ []) = refl
  sky_same other p (u ∷ us) (x ∷ y ∷ b) = rw (p u, sky_same other p us b)

-- ---- a loop that fills a pair a star: what it has made after r stars

module _ (f : Star → Pair) (star : ℕ → Star) (us : List ℕ) where
  pub record Pairing (d : List Float) (r : ℕ) (col : List Float) : Type 0 where
    pub few : r ≤ length us
    pub size : length d ≡ 2 * length us
    pub is : Partway d (pairs f (map star us)) (2 * r) col

  pub pairing_start : (d : List Float) → length d ≡ 2 * length us → Pairing d 0 d
  unfolding pairs
  pairing_start d e = record { few = omega arith; size = e; is = start d _ (count star _ _ us ∙ sym e) }

  module _ {d : List Float} {r : ℕ} {col : List Float} (p : Pairing d r col) where
    pub pairing_next : (x : Pair) → r < length us → x ≡ f (star (get_or us r 0)) → Pairing d (r + 1) (set (set col (2 * r) x.dh) (2 * r + 1) x.dd)
    unfolding pairs
    pairing_next x l e =
        record {
          few = omega arith;
          size = p.size;
          is =
              pair d _ r col x.dh x.dd nan (omega (arith, p.size)) p.is (rw e (hour star _ _ us r l))
              (rw e (dec star _ _ us r l));
        }

    pub pairing_end : length us ≤ r → col ≡ pairs f (map star us)
    pairing_end h = end d _ (2 * r) col (omega (arith, p.size)) p.is
