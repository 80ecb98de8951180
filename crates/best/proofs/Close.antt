-- Numbers within a factor of one another: `Upto N M k x y` says that x is at most (M / N) ^ k times y, and `Close` says it both ways.
-- Assumes nothing.
use mathlib.Core.Path.{◌≡◌, sym, ap, ◌∙◌, subst}
use Prim.Native.Nat.{ℕ, ◌+◌, ◌-◌, ◌*◌, ◌^◌, ◌≤◌, ◌<◌}
use native.Mathlib.Nat.{le_refl, le_trans, le_of_eq, add_comm, add-mul, add-le-add, add-sub_of_le, pow-zero, pow-suc, pow-le-pow_left}
use native.Mathlib.Nat.{one-mul, mul_comm, mul_assoc, mul_left_comm, mul_right_comm, mul-le-mul_left, mul-le-mul_right, le_of_mul-le-mul_right}
use lib.Pow.{pow-add}

abbrev pub Upto : ℕ → ℕ → ℕ → ℕ → ℕ → Type 0
Upto N M k x y = x * N ^ k ≤ y * M ^ k

abbrev pub Close : ℕ → ℕ → ℕ → ℕ → ℕ → Type 0
Close N M k x y = Upto N M k x y × Upto N M k y x

pow_one : (n : ℕ) → n ^ 1 ≡ n
pow_one n = pow-suc n 0 ∙ ap (λ (x : ℕ). x * n) (pow-zero n) ∙ one-mul n

module _ (N M : ℕ) where
  -- ---- one way

  pub upto_one : (x y : ℕ) → x * N ≤ y * M → Upto N M 1 x y
  upto_one x y h = rw (pow_one N, pow_one M) h

  pub upto_trans : (j k x y z : ℕ) → Upto N M j x y → Upto N M k y z → Upto N M (j + k) x z
  upto_trans j k x y z h l =
      le_trans (le_of_eq (ap (λ (w : ℕ). x * w) (pow-add N j k) ∙ sym (mul_assoc x (N ^ j) (N ^ k))))
      (le_trans (mul-le-mul_right (N ^ k) h)
      (le_trans (le_of_eq (mul_right_comm y (M ^ j) (N ^ k)))
      (le_trans (mul-le-mul_right (M ^ j) l)
      (le_of_eq (mul_assoc z (M ^ k) (M ^ j) ∙ ap (λ (w : ℕ). z * w) (mul_comm (M ^ k) (M ^ j) ∙ sym (pow-add M j k)))))))

  pub upto_le : (k x y : ℕ) → N ≤ M → x ≤ y → Upto N M k x y
  upto_le k x y h l = le_trans (mul-le-mul_right (N ^ k) l) (mul-le-mul_left y (pow-le-pow_left h k))

  pub upto_more : (j k x y : ℕ) → N ≤ M → j ≤ k → Upto N M j x y → Upto N M k x y
  upto_more j k x y h l u =
      subst (λ (i : ℕ). Upto N M i x y) (add-sub_of_le l) (upto_trans j (k - j) x y y u (upto_le (k - j) y y h (le_refl y)))

  -- where the factor is at most r / s as a whole
  pub upto_at_most : (k x y r s : ℕ) → 0 < N ^ k → s * M ^ k ≤ r * N ^ k → Upto N M k x y → s * x ≤ r * y
  upto_at_most k x y r s p b h =
      le_of_mul-le-mul_right
      (le_trans (le_of_eq (mul_assoc s x (N ^ k)))
      (le_trans (mul-le-mul_left s h)
      (le_trans (le_of_eq (mul_left_comm s y (M ^ k)))
      (le_trans (mul-le-mul_left y b) (le_of_eq (mul_left_comm y r (N ^ k) ∙ sym (mul_assoc r y (N ^ k))))))))
      p

  upto_add : (k x y x' y' : ℕ) → Upto N M k x y → Upto N M k x' y' → Upto N M k (x + x') (y + y')
  upto_add k x y x' y' h l = rw (add-mul x x' (N ^ k), add-mul y y' (M ^ k)) (add-le-add h l)

  upto-unscale : (k x y c : ℕ) → 0 < c → Upto N M k (x * c) (y * c) → Upto N M k x y
  upto-unscale k x y c C h = le_of_mul-le-mul_right (rw (mul_right_comm x (N ^ k) c, mul_right_comm y (M ^ k) c) h) C

  -- ---- both ways

  pub close_trans : (j k x y z : ℕ) → Close N M j x y → Close N M k y z → Close N M (j + k) x z
  close_trans j k x y z h l =
      (upto_trans j k x y z h.0 l.0, subst (λ (i : ℕ). Upto N M i z x) (add_comm k j) (upto_trans k j z y x l.1 h.1))

  pub close_more : (j k x y : ℕ) → N ≤ M → j ≤ k → Close N M j x y → Close N M k x y
  close_more j k x y n l h = (upto_more j k x y n l h.0, upto_more j k y x n l h.1)

  pub close_add : (k x y x' y' : ℕ) → Close N M k x y → Close N M k x' y' → Close N M k (x + x') (y + y')
  close_add k x y x' y' h l = (upto_add k x y x' y' h.0 l.0, upto_add k y x y' x' h.1 l.1)

  pub close_unscale : (k x y c : ℕ) → 0 < c → Close N M k (x * c) (y * c) → Close N M k x y
  close_unscale k x y c C h = (upto-unscale k x y c C h.0, upto-unscale k y x c C h.1)

  pub close_eq : (k x y : ℕ) → N ≤ M → x ≡ y → Close N M k x y
  close_eq k x y n e = (upto_le k x y n (le_of_eq e), upto_le k y x n (le_of_eq (sym e)))
