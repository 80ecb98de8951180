-- A text with more behind it, a name's bytes, and a text in the front of a buffer. Assumes nothing.
use Rattle.std.proofs.Common.{Result, Ok, Err, ◌≡◌, ◌+◌, ◌≤◌, ℕ, true, false, cond, eqb, List, [], ◌∷◌, ◌++◌, length, drop, take, refl, sym, ap, ◌∙◌, append_assoc, arith}
use Rattle.std.specs.Result.{result_unwrap_or}
use Rattle.std.proofs.lemmas.List.Edits.{sets-eq}
use Rattle.sequence.specs.Sequence.{concat_to}
use Rattle.sequence.proofs.Concat.{concat_next}
use Rattle.refusal.specs.declared.Refusal.{Refusal}
use Rattle.terms.specs.declared.Term.{Term}
use Rattle.terms.specs.Names.{name_of, blank_term, term_or_blank}
use Rattle.listing.specs.Text.{Wrote}

pub next_text : (f : ℕ → List ℕ) (s : List ℕ) (n : ℕ) {t u : List ℕ} → t ≡ s ++ concat_to n f → u ≡ t ++ f n → u ≡ s ++ concat_to (n + 1) f
next_text f s n e g = g ∙ rw e (append_assoc s (concat_to n f) (f n)) ∙ ap (λ l. s ++ l) (concat_next f n)

pub name_short : (s : List ℕ) → length (name_of s) ≤ length s
unfolding name_of
name_short [] = omega arith
name_short (b ∷ s) = elim (eqb b 0) as (λ t. length (cond t [] (b ∷ name_of s)) ≤ length (b ∷ s)) [ true ↦ omega arith | false ↦ omega (arith, name_short s) ]

-- the bytes of a name are as many as its end says
pub name_front : (s : List ℕ) → take (length (name_of s)) s ≡ name_of s
unfolding name_of
name_front [] = refl
name_front (b ∷ s) = elim (eqb b 0) as (λ t. take (length (cond t [] (b ∷ name_of s))) (b ∷ s) ≡ cond t [] (b ∷ name_of s)) [
  | true ↦ refl
  | false ↦ ap (λ l. b ∷ l) (name_front s)
]

pub or_blank : (r : Result Term Refusal) → result_unwrap_or r blank_term ≡ term_or_blank r
or_blank (Ok t) = refl
or_blank (Err why) = refl

pub in_front : (text out is : List ℕ) (n : ℕ) → n ≡ length text → n ≤ length out → is ≡ text ++ drop n out → Wrote text 0 out is n
in_front text out is n e h f =
    let z : 0 + length text ≡ n = omega arith in
    record { buffer = f ∙ sym (sets-eq text out 0 (omega arith) ∙ ap (λ k. text ++ drop k out) z); end = omega arith; room = h }
