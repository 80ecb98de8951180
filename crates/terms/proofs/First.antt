-- The first refusal among f 0 to f (n - 1). Assumes nothing.
use Prim.Native.Nat.{ℕ, zero, suc, ◌+◌, ◌<◌}
use native.Mathlib.Numerals.{add-one}
use native.Mathlib.Omega.{arith}
use mathlib.Core.Path.{◌≡◌, refl, sym, ◌∙◌, ap}
use Rattle.std.specs.Prelude.{Result, Ok, Err, ⊤}
use Rattle.refusal.specs.Questions.{and_then}
use Rattle.refusal.specs.declared.Refusal.{Refusal}
use Rattle.sequence.proofs.Fills.{last_or}
use Rattle.terms.specs.Slots.{all_ok}

module _ {A : Type 0} (f : ℕ → Result A Refusal) where
  pub ok_none : all_ok 0 f ≡ Ok tt
  unfolding all_ok
  ok_none = refl

  pub ok_step : (n : ℕ) (a : A) → all_ok n f ≡ Ok tt → f n ≡ Ok a → all_ok (n + 1) f ≡ Ok tt
  unfolding all_ok
  ok_step n a e q = rw (add-one n, e, q)

  -- a refusal decides
  stops : (n : ℕ) (why : Refusal) → all_ok n f ≡ Err why → all_ok (suc n) f ≡ Err why
  unfolding all_ok
  stops n why e = rw e

  refused : (n : ℕ) (why : Refusal) → all_ok n f ≡ Ok tt → f n ≡ Err why → all_ok (suc n) f ≡ Err why
  unfolding all_ok
  refused n why e q = rw (e, q)

  pub ok_stop : (i n : ℕ) (why : Refusal) → i < n → all_ok i f ≡ Ok tt → f i ≡ Err why → all_ok n f ≡ Err why
  ok_stop i zero why h e q = absurd (omega arith)
  ok_stop i (suc n) why h e q =
      last_or i n h
      (λ g. stops n why (ok_stop i n why g e q))
      (λ same. refused n why (ap (λ (k : ℕ). all_ok k f) (sym same) ∙ e) (ap f (sym same) ∙ q))

-- where none is refused each has an answer
done : Result ⊤ Refusal
done = Ok tt

split : {A : Type 0} (r : Result ⊤ Refusal) (s : Result A Refusal) → and_then r (λ _. and_then s (λ _. done)) ≡ done → (r ≡ done) × (a : A) × (s ≡ Ok a)
unfolding done
split (Ok t) (Ok a) e = (refl, a, refl)
split (Ok t) (Err why) e = absurd (cc)
split (Err why) s e = absurd (cc)

pub ok_each : {A : Type 0} (f : ℕ → Result A Refusal) (n : ℕ) → all_ok n f ≡ Ok tt → (i : ℕ) → i < n → (a : A) × (f i ≡ Ok a)
unfolding all_ok done
ok_each f zero e i h = absurd (omega arith)
ok_each f (suc n) e i h =
    let both = split (all_ok n f) (f n) e in
    last_or i n h (λ g. ok_each f n both.0 i g) (λ q. (both.1, ap f q ∙ both.2))

pub ok_same : {A : Type 0} (n : ℕ) (f g : ℕ → Result A Refusal) → ((i : ℕ) → i < n → f i ≡ g i) → all_ok n f ≡ all_ok n g
unfolding all_ok
ok_same zero f g e = refl
ok_same (suc n) f g e = rw (ok_same n f g (λ i h. e i (omega arith)), e n (omega arith))
