-- A loop that turns a list d into a list t of the same length, from the front on: what it has made after k numbers. Assumes nothing.
use Prim.Native.Nat.{ℕ, suc, ◌+◌, ◌-◌, ◌*◌, ◌≤◌, ◌<◌}
use native.Mathlib.Numerals.{add-one}
use native.Mathlib.Omega.{arith}
use mathlib.Core.Path.{◌≡◌, refl, sym, ap, ◌∙◌}
use mathlib.Core.List.{List, [], ◌∷◌, ◌++◌, append-nil, map}
use lib.ListN.{length, get_or, set, take, drop, length-set, length-map, drop_of_length-le, get_or-map}
use lib.Seq.{drop-cons, set_at, append_snoc, take-suc, take_all, length-take-le, get_or-append-add, get_or-drop}

pub record Partway {A : Type 0} (d t : List A) (k : ℕ) (s : List A) : Type 0 where
  pub size : length t ≡ length d
  pub long : length s ≡ length d
  pub is : s ≡ take k t ++ drop k d

module _ {A : Type 0} (d t : List A) where
  pub start : length t ≡ length d → Partway d t 0 d
  start h = record { size = h; long = refl; is = refl }

  pub step : (k : ℕ) (s : List A) (x z : A) → k < length d → Partway d t k s → x ≡ get_or t k z → Partway d t (suc k) (set s k x)
  step k s x z h p e =
      let n : length (take k t) ≡ k = length-take-le k t (omega arith) in
      let c : s ≡ take k t ++ get_or d k z ∷ drop (suc k) d = p.is ∙ ap (λ r. take k t ++ r) (drop-cons d k z h) in
      record {
        size = p.size;
        long = length-set s k x ∙ p.long;
        is =
            ap (λ (l : List A). set l k x) c
            ∙ set_at (take k t) (get_or d k z) (drop (suc k) d) x k n
            ∙ sym (append_snoc (take k t) x (drop (suc k) d))
            ∙ ap (λ (y : A). (take k t ++ (y ∷ [])) ++ drop (suc k) d) e
            ∙ ap (λ (l : List A). l ++ drop (suc k) d) (sym (take-suc t k z (omega arith)));
      }

  -- a number that is as it should be
  stay : (k : ℕ) (s : List A) (z : A) → k < length d → Partway d t k s → get_or d k z ≡ get_or t k z → Partway d t (suc k) s
  stay k s z h p e =
      record {
        size = p.size;
        long = p.long;
        is =
            p.is
            ∙ ap (λ (l : List A). take k t ++ l) (drop-cons d k z h)
            ∙ sym (append_snoc (take k t) (get_or d k z) (drop (suc k) d))
            ∙ ap (λ (y : A). (take k t ++ (y ∷ [])) ++ drop (suc k) d) e
            ∙ ap (λ (l : List A). l ++ drop (suc k) d) (sym (take-suc t k z (omega arith)));
      }

  -- two at once: the rows of star r
  pub pair : (r : ℕ) (s : List A) (x y z : A) → 2 * r + 1 < length d → Partway d t (2 * r) s → x ≡ get_or t (2 * r) z → y ≡ get_or t (2 * r + 1) z
      → Partway d t (2 * (r + 1)) (set (set s (2 * r) x) (2 * r + 1) y)
  pair r s x y z h p e f =
      let one : 2 * r + 1 ≡ suc (2 * r) = omega arith in
      let two : 2 * (r + 1) ≡ suc (suc (2 * r)) = omega arith in
      rw (two, one) (step (suc (2 * r)) (set s (2 * r) x) y z (omega arith) (step (2 * r) s x z (omega arith) p e) (rw one at f))

  -- the second of two stays as it was
  pub first : (r : ℕ) (s : List A) (x z : A) → 2 * r + 1 < length d → Partway d t (2 * r) s → x ≡ get_or t (2 * r) z → get_or d (2 * r + 1) z ≡ get_or t (2 * r + 1) z
      → Partway d t (2 * (r + 1)) (set s (2 * r) x)
  first r s x z h p e f =
      let one : 2 * r + 1 ≡ suc (2 * r) = omega arith in
      let two : 2 * (r + 1) ≡ suc (suc (2 * r)) = omega arith in
      rw two (stay (suc (2 * r)) (set s (2 * r) x) z (omega arith) (step (2 * r) s x z (omega arith) p e) (rw one at f))

  -- what is not yet written
  pub read : (k j : ℕ) (s : List A) (z : A) → k ≤ j → k ≤ length d → Partway d t k s → get_or s j z ≡ get_or d j z
  read k j s z h l p =
      let n : length (take k t) ≡ k = length-take-le k t (omega arith) in
      let i = j - k in
      let a : j ≡ length (take k t) + i = omega arith in
      let b : k + i ≡ j = omega arith in
      ap (λ (l : List A). get_or l j z) p.is
      ∙ ap (λ (m : ℕ). get_or (take k t ++ drop k d) m z) a
      ∙ get_or-append-add (take k t) (drop k d) i z
      ∙ get_or-drop k d i z
      ∙ ap (λ (m : ℕ). get_or d m z) b

  pub end : (k : ℕ) (s : List A) → length d ≤ k → Partway d t k s → s ≡ t
  end k s h p = p.is ∙ rw (take_all k t (omega arith), drop_of_length-le d h) (append-nil t)

-- a list that becomes f of another, element by element, and one that becomes f of itself
module _ {A B : Type 0} (f : A → B) (x : List A) where
  pub map_start : (d : List B) → length x ≡ length d → Partway d (map f x) 0 d
  map_start d h = start d (map f x) (length-map x f ∙ h)

  pub map_next : {d s : List B} {k : ℕ} {y : B} (z : A) → Partway d (map f x) k s → k < length d → y ≡ f (get_or x k z) → Partway d (map f x) (k + 1) (set s k y)
  map_next {d} {s} {k} {y} z p h e = rw (add-one k) (step d (map f x) k s y (f z) h p (e ∙ sym (get_or-map f x k z)))

pub map_itself : {A : Type 0} (f : A → A) {x s : List A} {k : ℕ} (z : A) → Partway x (map f x) k s → k < length x
    → Partway x (map f x) (k + 1) (set s k (f (get_or s k z)))
map_itself f {x} {s} {k} z p h = map_next f x z p h (ap f (read x (map f x) k k s z (omega arith) (omega arith) p))
