-- What the order is, for the reader: a permutation of the columns in which no value is strictly greater than an earlier one, whatever
-- the values are, and each value is at most those before it where none is a NaN. Assumes nothing.
use mathlib.Core.Path.{◌≡◌, refl, sym, ap, ◌∙◌}
use mathlib.Core.Logic.{⊎_elim}
use mathlib.Core.Bool.{Bool, true, false, ◌||◌, cond, true≢false}
use mathlib.Core.List.Perm
use mathlib.Core.List.{List, ◌∷◌, ◌++◌, Perm, perm_middle}
use Prim.Native.Nat.{ℕ, zero, suc, ◌+◌, ◌-◌, ◌*◌, ◌≤◌, ◌<◌}
use native.Mathlib.Nat.{not-suc-le-zero, eq-or-lt_of_le, eq-zero-or-pos}
use native.Mathlib.Numerals.{add-one}
use native.Mathlib.Omega.{arith}
use borrow.Author.Tests.{ltb-false, lt-ltb, eq-eqb}
use lib.Dec.{T, ltb, T_not}
use lib.ListN.{length, get_or, take, drop, length-append, length-drop, take-append-drop}
use lib.Seq.{drop-cons, length-take-le}
use lib.Ieee.{Float, nan, inf, fin, up, down, below, level, lt, eq, le}
use Rattle.float.proofs.Order.{lt_trans_all, lt_irrefl_all}
use Rattle.sequence.specs.Sequence.{at, table}
use Rattle.sequence.proofs.Fills.{table-length}
use Rattle.order.specs.Order.{best, order, ordered, All, AllBelow}
use Rattle.order.proofs.All.{all_get_d, all_from, all_append, all_take, all_drop, all_up_to}

-- ---- floats

-- a test that can't hold is false
pub refuted : (b : Bool) → (T b → ⊥) → b ≡ false
refuted true f = absurd (f tt)
refuted false f = refl

not_below_itself : (x : Float) → lt x x ≡ false
not_below_itself x = refuted (lt x x) (T_not (lt x x) (lt_irrefl_all x))

-- what isn't above x isn't above y, which is
not_above : (x y z : Float) → lt x y ≡ true → lt x z ≡ false → lt y z ≡ false
not_above x y z e f = refuted (lt y z) (λ h. let t : T (lt x z) = lt_trans_all x y z (rw e tt) h in rw f at t)

or_true : (b : Bool) → (b || true) ≡ true
or_true true = refl
or_true false = refl

-- sizes a and b with signs: what isn't below is above or level
above_or_level : (s t : Bool) (a b : ℕ) → below s a t b ≡ false → (below t b s a || level t b s a) ≡ true
above_or_level false false a b e =
    ⊎_elim (λ q. rw (eq-eqb b a q) (or_true (ltb b a))) (λ l. rw (lt-ltb b a l)) (eq-or-lt_of_le (ltb-false a b e))
above_or_level false true a b e =
    ⊎_elim
    (λ q. let f : b ≡ a = omega arith in let g : b ≡ 0 = omega arith in rw (eq-eqb b a f, eq-eqb b 0 g) (or_true (ltb 0 (b + a))))
    (λ l. rw (lt-ltb 0 (b + a) l))
    (eq-zero-or-pos (b + a))
above_or_level true false a b e =
    let z = ltb-false 0 (a + b) e in
    let f : b ≡ a = omega arith in
    let g : b ≡ 0 = omega arith in
    rw (eq-eqb b a f, eq-eqb b 0 g)
above_or_level true true a b e =
    ⊎_elim (λ q. rw (eq-eqb b a (sym q)) (or_true (ltb a b))) (λ l. rw (lt-ltb a b l)) (eq-or-lt_of_le (ltb-false b a e))

-- of two numbers that aren't NaNs one is at most the other
at_most : (x y : Float) → eq x x ≡ true → eq y y ≡ true → lt x y ≡ false → le y x ≡ true
unfolding lt eq le
at_most nan y ex ey e = absurd (true≢false (sym ex))
at_most (inf s) nan ex ey e = absurd (true≢false (sym ey))
at_most (fin s m d) nan ex ey e = absurd (true≢false (sym ey))
at_most (inf true) (inf true) ex ey e = refl
at_most (inf true) (inf false) ex ey e = absurd (true≢false e)
at_most (inf false) (inf true) ex ey e = refl
at_most (inf false) (inf false) ex ey e = refl
at_most (inf true) (fin t n c) ex ey e = absurd (true≢false e)
at_most (inf false) (fin t n c) ex ey e = refl
at_most (fin s m d) (inf true) ex ey e = refl
at_most (fin s m d) (inf false) ex ey e = absurd (true≢false e)
at_most (fin s m d) (fin t n c) ex ey e = above_or_level s t (m * up d * down c) (n * up c * down d) e

-- ---- the columns left

module _ (σ : List Float) where
  best-within : (left : List ℕ) (n : ℕ) → best σ left n ≤ n
  unfolding best
  best-within left zero = omega arith
  best-within left (suc n) = within (lt (at σ (get_or left (best σ left n) 0)) (at σ (get_or left (suc n) 0))) (best-within left n)
    where
      within : {b : ℕ} (t : Bool) → b ≤ n → cond t (suc n) b ≤ suc n
      within true h = omega arith
      within false h = omega arith

  -- no value left is strictly greater than the one taken
  greatest : (left : List ℕ) (n k : ℕ) → k ≤ n → lt (at σ (get_or left (best σ left n) 0)) (at σ (get_or left k 0)) ≡ false
  unfolding best
  greatest left zero k h = let e : k ≡ 0 = omega arith in rw e (not_below_itself (at σ (get_or left 0 0)))
  greatest left (suc n) k h =
      let b = best σ left n in
      let x = at σ (get_or left b 0) in
      let y = at σ (get_or left (suc n) 0) in
      let step : (t : Bool) → lt x y ≡ t → lt (at σ (get_or left (cond t (suc n) b) 0)) (at σ (get_or left k 0)) ≡ false =
      λ t. elim t as (λ q. lt x y ≡ q → lt (at σ (get_or left (cond q (suc n) b) 0)) (at σ (get_or left k 0)) ≡ false) [
        | true ↦ λ e. ⊎_elim (λ q. rw q (not_below_itself y))
            (λ l. not_above x y (at σ (get_or left k 0)) e (greatest left n k (omega arith))) (eq-or-lt_of_le h)
        | false ↦ λ e. ⊎_elim (λ q. rw q e) (λ l. greatest left n k (omega arith)) (eq-or-lt_of_le h)
      ] in
      step (lt x y) refl

  -- the column taken, and the others
  abbrev pub place : List ℕ → ℕ
  place left = best σ left (length left - 1)

  abbrev pub rest : List ℕ → List ℕ
  rest left = take (place left) left ++ drop (place left + 1) left

  pub place_inside : (left : List ℕ) → 0 < length left → place left < length left
  place_inside left h = omega (arith, best-within left (length left - 1))

  pub length_rest : (left : List ℕ) (n : ℕ) → length left ≡ suc n → length (rest left) ≡ n
  length_rest left n e =
      let i = place_inside left (omega arith) in
      length-append (take (place left) left) (drop (place left + 1) left)
      ∙ rw (length-take-le (place left) left (omega arith), length-drop (place left + 1) left) (omega arith)

  pub all_rest : (P : ℕ → Type 0) (left : List ℕ) → All P left → All P (rest left)
  all_rest P left a =
      all_append P (take (place left) left) (drop (place left + 1) left) (all_take P (place left) left a) (all_drop P (place left + 1) left a)

  all-order : (P : ℕ → Type 0) (n : ℕ) (left : List ℕ) → length left ≡ n → All P left → All P (order n σ left)
  unfolding order
  all-order P zero left e a = a
  all-order P (suc n) left e a =
      (all_get_d P left (place left) a (place_inside left (omega arith)), all-order P n (rest left) (length_rest left n e) (all_rest P left a))

  length-order : (n : ℕ) (left : List ℕ) → length left ≡ n → length (order n σ left) ≡ n
  unfolding order
  length-order zero left e = e
  length-order (suc n) left e = ap suc (length-order n (rest left) (length_rest left n e))

  permutes : (n : ℕ) (left : List ℕ) → length left ≡ n → Perm (order n σ left) left
  unfolding order
  permutes zero left e = Perm.refl left
  permutes (suc n) left e =
      let b = place left in
      let i = place_inside left (omega arith) in
      let split : take b left ++ (get_or left b 0 ∷ drop (b + 1) left) ≡ left =
      rw (add-one b, ← drop-cons left b 0 i) (take-append-drop b left) in
      rw split at
      (Perm.trans (Perm.cons (get_or left b 0) (permutes n (rest left) (length_rest left n e))) (Perm.symm (perm_middle (take b left) (drop (b + 1) left))))

  -- the value taken i-th of the columns left
  abbrev value_of : ℕ → List ℕ → ℕ → Float
  value_of n left i = at σ (get_or (order n σ left) i 0)

  falls : (n : ℕ) (left : List ℕ) → length left ≡ n → (i j : ℕ) → i < j → j < n → lt (value_of n left i) (value_of n left j) ≡ false
  unfolding order
  falls zero left e i j h l = absurd (not-suc-le-zero l)
  falls (suc n) left e i zero h l = absurd (not-suc-le-zero h)
  falls (suc n) left e zero (suc j) h l =
      let P : ℕ → Type 0 = λ c. lt (at σ (get_or left (place left) 0)) (at σ c) ≡ false in
      let a : All P left = all_from P left (λ k q. greatest left (length left - 1) k (omega arith)) in
      let r = length_rest left n e in
      all_get_d P (order n σ (rest left)) j (all-order P n (rest left) r (all_rest P left a)) (omega (arith, length-order n (rest left) r))
  falls (suc n) left e (suc i) (suc j) h l = falls n (rest left) (length_rest left n e) i j (omega arith) (omega arith)

-- ---- the order of m columns

module _ (m : ℕ) (σ : List Float) where
  -- it is the columns 0 to m - 1, each once
  pub ordered_permutes : Perm (ordered m σ) (table m (λ j. j))
  ordered_permutes = permutes σ m (table m (λ j. j)) (table-length (λ j. j) m)

  pub ordered-length : length (ordered m σ) ≡ m
  ordered-length = length-order σ m (table m (λ j. j)) (table-length (λ j. j) m)

  pub ordered_below : AllBelow m (ordered m σ)
  ordered_below = all-order σ (λ x. x < m) m (table m (λ j. j)) (table-length (λ j. j) m) (all_up_to m m (omega arith))

  -- the value that is taken i-th
  abbrev pub taken : ℕ → Float
  taken i = at σ (get_or (ordered m σ) i 0)

  -- no later value is strictly greater, NaNs included
  pub never_greater : (i j : ℕ) → i < j → j < m → lt (taken i) (taken j) ≡ false
  never_greater i j h l = falls σ m (table m (λ j. j)) (table-length (λ j. j) m) i j h l

  -- where no value is a NaN, which alone doesn't equal itself, each is at most those before it
  pub descending : ((j : ℕ) → j < m → eq (at σ j) (at σ j) ≡ true) → (i j : ℕ) → i < j → j < m → le (taken j) (taken i) ≡ true
  descending numbers i j h l =
      let number : (k : ℕ) → k < m → eq (taken k) (taken k) ≡ true =
      λ k q. numbers (get_or (ordered m σ) k 0) (all_get_d (λ x. x < m) (ordered m σ) k ordered_below (rw ordered-length q)) in
      at_most (taken i) (taken j) (number i (omega arith)) (number j l) (never_greater i j h l)
