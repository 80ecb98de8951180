-- Fractions that are equal, x / d and u / q, by their products: x * q ≡ u * d. Their squares, their sums and their order. Assumes nothing.
use mathlib.Core.Path.{◌≡◌, sym, ap, ◌∙◌}
use Prim.Native.Nat.{ℕ, ◌+◌, ◌*◌, ◌≤◌, ◌<◌}
use native.Mathlib.Nat.{le_trans, le_of_eq, mul_comm, mul_assoc, mul_right_comm, mul-mul-mul_comm, add-mul, mul-le-mul_right, le_of_mul-le-mul_right}

pub square : (x d u q : ℕ) → x * q ≡ u * d → x * x * (q * q) ≡ u * u * (d * d)
square x d u q h = mul-mul-mul_comm x x q q ∙ ap (λ (z : ℕ). z * z) h ∙ mul-mul-mul_comm u d u d

-- over d * e, where the other fraction is over e
pub left : (x d e u q : ℕ) → x * q ≡ u * d → x * e * q ≡ u * (d * e)
left x d e u q h = mul_right_comm x e q ∙ ap (λ (z : ℕ). z * e) h ∙ mul_assoc u d e

pub right : (y d e v q : ℕ) → y * q ≡ v * e → y * d * q ≡ v * (d * e)
right y d e v q h = left y e d v q h ∙ ap (λ (z : ℕ). v * z) (mul_comm e d)

pub sum : (x y d e u v q : ℕ) → x * q ≡ u * d → y * q ≡ v * e → (x * e + y * d) * q ≡ (u + v) * (d * e)
sum x y d e u v q h k =
    add-mul (x * e) (y * d) q
    ∙ ap (λ (z : ℕ). z + y * d * q) (left x d e u q h)
    ∙ ap (λ (z : ℕ). u * (d * e) + z) (right y d e v q k)
    ∙ sym (add-mul u v (d * e))

-- x / w and y / w, which are u / q and v / q
pub order : (x y w u v q r s : ℕ) → 0 < q → x * q ≡ u * w → y * q ≡ v * w → r * u ≤ s * v → r * x ≤ s * y
order x y w u v q r s Q h k l =
    le_of_mul-le-mul_right
    (le_trans (le_of_eq (mul_assoc r x q ∙ ap (λ (z : ℕ). r * z) h ∙ sym (mul_assoc r u w)))
    (le_trans (mul-le-mul_right w l) (le_of_eq (mul_assoc s v w ∙ ap (λ (z : ℕ). s * z) (sym k) ∙ sym (mul_assoc s y q)))))
    Q
