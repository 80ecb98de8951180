-- A pair that turns, V's rows after A's. Assumes nothing.
use mathlib.Core.Path.{◌≡◌, refl, sym, ap, ◌∙◌}
use mathlib.Core.Bool.{Bool, true}
use mathlib.Core.List.{List, zip_with}
use Prim.Native.Nat.{ℕ, zero, suc, ◌+◌, ◌*◌, ◌≤◌}
use native.Mathlib.Nat.{add-zero}
use native.Mathlib.Numerals.{add-one}
use native.Mathlib.Omega.{arith}
use lib.ListN.{length}
use lib.Seq.{sets}
use lib.Ieee.{Float}
use Rattle.float.specs.Float.{◌⊗◌}
use Rattle.sequence.specs.Sequence.{part}
use Rattle.sequence.proofs.Parts.{apart, length_zip_part, part_sets_above, part_sets_below}
use Rattle.jacobi.specs.declared.Products.{Products}
use Rattle.jacobi.specs.Jacobi.{products, turns, turn, new_p, new_q, pair, zeta_of, tan_of, cos_of}
use Rattle.jacobi.proofs.Laws.{turn-zero, turn-length, turn_step, pair_turned}

-- ---- V's rows after A's

module _ (c s : Float) (k x y : ℕ) (l : List Float) where
  -- the first k rows, and then the next j
  turn-rest : (j : ℕ) → x + k + j ≤ y → y + k + j ≤ length l → turn c s j (x + k) (y + k) (turn c s k x y l) ≡ turn c s (k + j) x y l
  turn-rest zero apart fits = sym (turn-zero c s (x + k) (y + k) (turn c s k x y l)) ∙ ap (λ (n : ℕ). turn c s n x y l) (sym (add-zero k))
  turn-rest (suc j) apart fits =
      let L = turn c s k x y l in
      let a = turn c s j (x + k) (y + k) L in
      let ex : x + (k + j) ≡ x + k + j = omega arith in
      let ey : y + (k + j) ≡ y + k + j = omega arith in
      let en : k + suc j ≡ k + j + 1 = omega arith in
      let long : length L ≡ length l = turn-length c s k x y l in
      let far = rw (ex, ey) at (turn_step c s (k + j) x y l a (turn-rest j (omega arith) (omega arith)) (omega arith) (omega arith)) in
      ap (λ (n : ℕ). turn c s n (x + k) (y + k) L) (sym (add-one j))
      ∙ sym (turn_step c s j (x + k) (y + k) L a refl (omega arith) (omega arith))
      ∙ far
      ∙ ap (λ (n : ℕ). turn c s n x y l) (sym en)

  -- the k numbers from x on, and those from z on, while the next j turn
  module _ (j : ℕ) (apart : x + k + j ≤ y) (fits : y + k + j ≤ length l) (z : ℕ) (above : y + k + j ≤ z) where
    rest-keeps : products k x z (turn c s j (x + k) (y + k) l) ≡ products k x z l
    unfolding turn
    rest-keeps =
        let F = zip_with (new_p c s) (part l (x + k) j) (part l (y + k) j) in
        let G = zip_with (new_q c s) (part l (x + k) j) (part l (y + k) j) in
        let nF : length F ≡ j = length_zip_part (new_p c s) l (x + k) (y + k) j (omega arith) (omega arith) in
        let nG : length G ≡ j = length_zip_part (new_q c s) l (x + k) (y + k) j (omega arith) (omega arith) in
        let ex = part_sets_below (sets l (x + k) F) x k (y + k) G (omega arith) ∙ part_sets_below l x k (x + k) F (omega arith) in
        let ez = part_sets_above (sets l (x + k) F) z k (y + k) G (omega arith) ∙ part_sets_above l z k (x + k) F (omega arith) in
        rw (ex, ez)

-- ---- a pair that turns

module _ (h rows m p q : ℕ) (w : List Float) (t c : Float) (w₁ w₂ : List Float) (ew₁ : w₁ ≡ turn c (c ⊗ t) rows (p * h) (q * h) w)
    (ew₂ : w₂ ≡ turn c (c ⊗ t) m (p * h + rows) (q * h + rows) w₁) (below : p * h + h ≤ q * h) (fits : q * h + h ≤ length w) (within : rows + m ≤ h) where
  -- A's rows turn and then V's
  pub turned_pair : (a : Products) → a ≡ products rows (p * h) (q * h) w → turns a.alpha a.beta a.gamma ≡ true
      → t ≡ tan_of (zeta_of a.alpha a.beta a.gamma) → c ≡ cos_of t → (b : Bool)
      → record { w = w₂; turned = true } ≡ pair h rows m p q (record { w = w; turned = b })
  turned_pair a known e et ec b =
      let both : w₂ ≡ turn c (c ⊗ t) (rows + m) (p * h) (q * h) w =
      rw (ew₂, ew₁) (turn-rest c (c ⊗ t) rows (p * h) (q * h) w m (omega arith) (omega arith)) in
      pair_turned h rows m p q w a known e t c et ec w₂ both b

  -- the sums of the next pair are those of before V's rows
  pub turned_sums : (a : Products) → a ≡ products rows (p * h) (q * h + h) w₁ → a ≡ products rows (p * h) ((q + 1) * h) w₂
  turned_sums a ea =
      let e : (q + 1) * h ≡ q * h + h = omega arith in
      let long : length w₁ ≡ length w = ap length ew₁ ∙ turn-length c (c ⊗ t) rows (p * h) (q * h) w in
      ea ∙ sym (rw (e, ew₂) (rest-keeps c (c ⊗ t) rows (p * h) (q * h) w₁ m (omega arith) (omega arith) (q * h + h) (omega arith)))
