-- `lt` is transitive on all floats, NaNs, infinities and both signs included, and so is `lt` followed by `le`. Assumes nothing.
use mathlib.Core.Path.{◌≡◌, refl, sym, ap, ◌∙◌}
use mathlib.Core.Logic.{◌⊎◌, inl, inr}
use Prim.Native.Nat.{ℕ, ◌+◌, ◌*◌, ◌<◌, zero-le}
use native.Mathlib.Nat.{le_of_eq, lt_of_le_of_lt, lt_of_lt_of_le, lt_trans, lt_irrefl, le-add_right, le-add_left, zero-add, eq-zero-or-pos}
use native.Mathlib.Nat.{mul-pos, mul_right_comm, mul-lt-mul_of_pos_right, lt_of_mul-lt-mul_right, eq_of_mul-eq-mul_right, zero-mul}
use mathlib.Core.Bool.{Bool, true, false, not, ◌&&◌, ◌||◌, true≢false}
use lib.Dec.{T, ltb, eqb, ltb→lt, lt→ltb, eqb→eq, not_T, T_not}
use lib.Ieee.{Float, nan, inf, fin, up, down, below, level, lt, eq, le}
use lib.Ieee.Fits.{down_pos, and_l, and_r, and_i}
use lib.Ieee.Positive.{first_pos}

-- ---- fractions: a / p < b / q < c / w
frac : (a b c p q w : ℕ) → 0 < p → 0 < w → a * q < b * p → b * w < c * q → a * w < c * p
frac a b c p q w P W h k =
    lt_of_mul-lt-mul_right q
    (lt_of_le_of_lt (le_of_eq (mul_right_comm a w q))
    (lt_trans (mul-lt-mul_of_pos_right h W)
    (lt_of_le_of_lt (le_of_eq (mul_right_comm b p w)) (lt_of_lt_of_le (mul-lt-mul_of_pos_right k P) (le_of_eq (mul_right_comm c q p))))))

-- a / p < b / q = c / w
frac_eq : (a b c p q w : ℕ) → 0 < w → a * q < b * p → b * w ≡ c * q → a * w < c * p
frac_eq a b c p q w W h e =
    lt_of_mul-lt-mul_right q
    (lt_of_le_of_lt (le_of_eq (mul_right_comm a w q))
    (lt_of_lt_of_le (mul-lt-mul_of_pos_right h W) (le_of_eq (mul_right_comm b p w ∙ ap (λ (z : ℕ). z * p) e ∙ mul_right_comm c q p))))

-- a / p = b / q < c / w
eq_frac : (a b c p q w : ℕ) → 0 < p → a * q ≡ b * p → b * w < c * q → a * w < c * p
eq_frac a b c p q w P e k =
    lt_of_mul-lt-mul_right q
    (lt_of_le_of_lt (le_of_eq (mul_right_comm a w q ∙ ap (λ (z : ℕ). z * w) e ∙ mul_right_comm b p w))
    (lt_of_lt_of_le (mul-lt-mul_of_pos_right k P) (le_of_eq (mul_right_comm c q p))))

-- what is above something is above zero, and so is its numerator
num_pos : (x a q : ℕ) → x < a * q → 0 < a
num_pos x a q h = first_pos a q (lt_of_le_of_lt zero-le h)

one_pos : (x y : ℕ) → 0 < x + y → (0 < x) ⊎ (0 < y)
one_pos x y h = elim (eq-zero-or-pos x) [ inl z ↦ inr (lt_of_lt_of_le h (le_of_eq (ap (λ (w : ℕ). w + y) z ∙ zero-add y))) | inr p ↦ inl p ]

left_pos : (x y : ℕ) → 0 < x → T (ltb 0 (x + y))
left_pos x y h = lt→ltb 0 (x + y) (lt_of_lt_of_le h (le-add_right x y))

right_pos : (x y : ℕ) → 0 < y → T (ltb 0 (x + y))
right_pos x y h = lt→ltb 0 (x + y) (lt_of_lt_of_le h (le-add_left y x))

no_product : (b w : ℕ) → 0 < w → b * w ≡ 0 → b ≡ 0
no_product b w W e = eq_of_mul-eq-mul_right w W b 0 (e ∙ sym (zero-mul w))

not_below_zero : (x b p : ℕ) → b ≡ 0 → x < b * p → ⊥
not_below_zero x b p z h = lt_irrefl 0 (lt_of_le_of_lt zero-le (lt_of_lt_of_le h (le_of_eq (ap (λ (w : ℕ). w * p) z ∙ zero-mul p))))

module _ (a b c p q w : ℕ) (P : 0 < p) (Q : 0 < q) (W : 0 < w) where
  below-trans : (s t r : Bool) → T (below s (a * q) t (b * p)) → T (below t (b * w) r (c * q)) → T (below s (a * w) r (c * p))
  below-trans false false false h k = lt→ltb (a * w) (c * p) (frac a b c p q w P W (ltb→lt (a * q) (b * p) h) (ltb→lt (b * w) (c * q) k))
  below-trans false false true h k = absurd k
  below-trans false true false h k = absurd h
  below-trans false true true h k = absurd h
  below-trans true false false h k = right_pos (a * w) (c * p) (mul-pos (num_pos (b * w) c q (ltb→lt (b * w) (c * q) k)) P)
  below-trans true false true h k = absurd k
  below-trans true true false h k = left_pos (a * w) (c * p) (mul-pos (num_pos (b * p) a q (ltb→lt (b * p) (a * q) h)) W)
  below-trans true true true h k = lt→ltb (c * p) (a * w) (frac c b a w q p W P (ltb→lt (c * q) (b * w) k) (ltb→lt (b * p) (a * q) h))

  both_zero : (x : Bool) → T (eqb (b * w) (c * q) && (x || eqb (b * w) 0)) → x ≡ false → (b ≡ 0) × (c ≡ 0)
  both_zero true t e = absurd (true≢false e)
  both_zero false t e =
      let z : b * w ≡ 0 = eqb→eq (b * w) 0 (and_r (eqb (b * w) (c * q)) (eqb (b * w) 0) t) in
      (no_product b w W z, no_product c q Q (sym (eqb→eq (b * w) (c * q) (and_l (eqb (b * w) (c * q)) (eqb (b * w) 0) t)) ∙ z))

  below-level : (s t r : Bool) → T (below s (a * q) t (b * p)) → T (level t (b * w) r (c * q)) → T (below s (a * w) r (c * p))
  below-level false false false h k = lt→ltb (a * w) (c * p) (frac_eq a b c p q w W (ltb→lt (a * q) (b * p) h) (eqb→eq (b * w) (c * q) (and_l (eqb (b * w) (c * q)) true k)))
  below-level false false true h k = absurd (not_below_zero (a * q) b p (both_zero false k refl).0 (ltb→lt (a * q) (b * p) h))
  below-level false true false h k = absurd h
  below-level false true true h k = absurd h
  below-level true false false h k =
      elim (one_pos (a * q) (b * p) (ltb→lt 0 (a * q + b * p) h)) [
        | inl x ↦ left_pos (a * w) (c * p) (mul-pos (first_pos a q x) W)
        | inr y ↦ right_pos (a * w) (c * p) (mul-pos (first_pos c q (lt_of_lt_of_le (mul-pos (first_pos b p y) W) (le_of_eq (eqb→eq (b * w) (c * q) (and_l (eqb (b * w) (c * q)) true k))))) P)
      ]
  below-level true false true h k =
      let z = both_zero false k refl in
      elim (one_pos (a * q) (b * p) (ltb→lt 0 (a * q + b * p) h)) [
        | inl x ↦ lt→ltb (c * p) (a * w) (lt_of_le_of_lt (le_of_eq (ap (λ (w : ℕ). w * p) z.1 ∙ zero-mul p)) (mul-pos (first_pos a q x) W))
        | inr y ↦ absurd (not_below_zero 0 b p z.0 y)
      ]
  below-level true true false h k = left_pos (a * w) (c * p) (mul-pos (num_pos (b * p) a q (ltb→lt (b * p) (a * q) h)) W)
  below-level true true true h k =
      lt→ltb (c * p) (a * w) (eq_frac c b a w q p W (sym (eqb→eq (b * w) (c * q) (and_l (eqb (b * w) (c * q)) true k))) (ltb→lt (b * p) (a * q) h))

-- ---- on floats
inf_below : (t : Bool) (z : Float) → T (lt (inf t) z) → T t
unfolding lt
inf_below t nan k = absurd k
inf_below t (inf r) k = and_l t (not r) k
inf_below t (fin r c w) k = k

below_inf : (x : Float) (t : Bool) → T (lt x (inf t)) → T (not t)
unfolding lt
below_inf nan t h = absurd h
below_inf (inf s) t h = and_r s (not t) h
below_inf (fin s m e) t h = h

pub lt_trans_all : (x y z : Float) → T (lt x y) → T (lt y z) → T (lt x z)
unfolding lt
lt_trans_all nan y z h k = absurd h
lt_trans_all (inf s) nan z h k = absurd h
lt_trans_all (fin s m e) nan z h k = absurd h
lt_trans_all (inf s) (inf t) z h k = absurd (T_not t (below_inf (inf s) t h) (inf_below t z k))
lt_trans_all (fin s m e) (inf t) z h k = absurd (T_not t (below_inf (fin s m e) t h) (inf_below t z k))
lt_trans_all (inf s) (fin t n d) nan h k = absurd k
lt_trans_all (inf s) (fin t n d) (inf r) h k = and_i s (not r) h k
lt_trans_all (inf s) (fin t n d) (fin r l c) h k = h
lt_trans_all (fin s m e) (fin t n d) nan h k = absurd k
lt_trans_all (fin s m e) (fin t n d) (inf r) h k = k
lt_trans_all (fin s m e) (fin t n d) (fin r l c) h k =
    below-trans (m * up e) (n * up d) (l * up c) (down e) (down d) (down c) (down_pos e) (down_pos d) (down_pos c) s t r h k

pub lt_eq_all : (x y z : Float) → T (lt x y) → T (eq y z) → T (lt x z)
unfolding lt eq
lt_eq_all nan y z h k = absurd h
lt_eq_all (inf s) nan z h k = absurd h
lt_eq_all (fin s m e) nan z h k = absurd h
lt_eq_all (inf s) (inf t) nan h k = absurd k
lt_eq_all (inf s) (inf true) (inf true) h k = h
lt_eq_all (inf s) (inf true) (inf false) h k = absurd k
lt_eq_all (inf s) (inf false) (inf true) h k = absurd k
lt_eq_all (inf s) (inf false) (inf false) h k = h
lt_eq_all (inf s) (inf t) (fin r l c) h k = absurd k
lt_eq_all (fin s m e) (inf t) nan h k = absurd k
lt_eq_all (fin s m e) (inf true) (inf true) h k = h
lt_eq_all (fin s m e) (inf true) (inf false) h k = absurd k
lt_eq_all (fin s m e) (inf false) (inf true) h k = absurd k
lt_eq_all (fin s m e) (inf false) (inf false) h k = h
lt_eq_all (fin s m e) (inf t) (fin r l c) h k = absurd k
lt_eq_all (inf s) (fin t n d) nan h k = absurd k
lt_eq_all (inf s) (fin t n d) (inf r) h k = absurd k
lt_eq_all (inf s) (fin t n d) (fin r l c) h k = h
lt_eq_all (fin s m e) (fin t n d) nan h k = absurd k
lt_eq_all (fin s m e) (fin t n d) (inf r) h k = absurd k
lt_eq_all (fin s m e) (fin t n d) (fin r l c) h k =
    below-level (m * up e) (n * up d) (l * up c) (down e) (down d) (down c) (down_pos e) (down_pos d) (down_pos c) s t r h k

or_split : (a b : Bool) → T (a || b) → T a ⊎ T b
or_split true b t = inl tt
or_split false b t = inr t

pub lt_le_all : (x y z : Float) → T (lt x y) → T (le y z) → T (lt x z)
unfolding le
lt_le_all x y z h k = elim (or_split (lt y z) (eq y z) k) [ inl l ↦ lt_trans_all x y z h l | inr e ↦ lt_eq_all x y z h e ]

not_or : (a b : Bool) → T (not (a || b)) → T (not a)
not_or true b t = t
not_or false b t = tt

pub not_le→not_lt : (x y : Float) → T (not (le x y)) → T (not (lt x y))
unfolding le
not_le→not_lt x y t = not_or (lt x y) (eq x y) t

self : (a p : ℕ) → T (ltb (a * p) (a * p)) → ⊥
self a p t = lt_irrefl (a * p) (ltb→lt (a * p) (a * p) t)

pub lt_irrefl_all : (x : Float) → T (not (lt x x))
unfolding lt
lt_irrefl_all nan = tt
lt_irrefl_all (inf true) = tt
lt_irrefl_all (inf false) = tt
lt_irrefl_all (fin true m e) = not_T (ltb (m * up e * down e) (m * up e * down e)) (self (m * up e) (down e))
lt_irrefl_all (fin false m e) = not_T (ltb (m * up e * down e) (m * up e * down e)) (self (m * up e) (down e))
