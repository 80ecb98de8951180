-- The pier flag is right: where it is false the pair is the same whatever the pier, and where it is true East and West differ at the sheet of ones.
-- Assumes nothing.
use Prim.Native.Nat.{ℕ, ◌≤◌}
use mathlib.Core.Path.{◌≡◌, refl, sym, ◌∙◌, ap, subst}
use Rattle.std.specs.Prelude.{Result, Ok, Err}
use Rattle.refusal.specs.Questions.{and_then}
use Rattle.refusal.specs.declared.Refusal.{Refusal}
use mathlib.Core.Logic.{inl, inr}
use mathlib.Core.Bool.{Bool, true, false, false≢true}
use mathlib.Core.List.{List}
use borrow.Author.Tests.{le-leb}
use lib.Ieee.{Float, nan, inf, fin, neg, mul, div, of_bits}
use Rattle.float.specs.Float.{#1, ◌⊗◌, is_finite}
use Rattle.observation.specs.Observation.{sign_of, side_of}
use Rattle.observation.specs.Sheet.{point_of}
use Rattle.observation.specs.declared.Pair.{Pair}
use Rattle.equatorial.specs.declared.EquatorialTerm.TheVariants.{IH, ID, CH, NP, MA, ME, TF, TX, TXN, DAF, FO, HCES, HCEC, DCES, DCEC}
use Rattle.harmonic.specs.Value.{evaluate, harmonic_jacobian}
use Rattle.harmonic.specs.declared.ResultType.{ResultType}
use Rattle.harmonic.proofs.Ones.{ones, OneOrZero, ReadOnes, read_ones}
use Rattle.terms.specs.Pier.{sensitive_result, pier_sensitive_of}
use Rattle.terms.specs.Names.{term_or_blank, read_term}
use Rattle.terms.specs.Jacobian.{kind_jacobian, term_jacobian, jacobian_of, SameOnBoth, TurnsAt}
use Rattle.terms.specs.declared.TermKind.{TermKind}
use Rattle.terms.specs.declared.TermKind.TheVariants.{Equatorial, Harmonic}
use Rattle.terms.specs.declared.Term.{Term}
use Rattle.terms.proofs.Readings.{of_reading}

-- ---- false

module _ (sheet : List Float) (sinLat cosLat p q : Float) where
  same_harmonic : (r : ResultType) (v : Float) → sensitive_result r ≡ false
      → harmonic_jacobian r v (point_of sheet sinLat cosLat p) ≡ harmonic_jacobian r v (point_of sheet sinLat cosLat q)
  unfolding point_of
  same_harmonic ResultType.H v e = refl
  same_harmonic ResultType.D v e = refl
  same_harmonic ResultType.X v e = refl
  same_harmonic ResultType.P v e = absurd (false≢true (sym e))
  same_harmonic ResultType.A v e = refl
  same_harmonic ResultType.E v e = refl
  same_harmonic ResultType.Z v e = refl
  same_harmonic ResultType.S v e = refl

  same_of : (k : TermKind) → pier_sensitive_of k ≡ false
      → kind_jacobian k sheet (point_of sheet sinLat cosLat p) ≡ kind_jacobian k sheet (point_of sheet sinLat cosLat q)
  unfolding point_of
  same_of (Equatorial IH) e = refl
  same_of (Equatorial ID) e = absurd (false≢true (sym e))
  same_of (Equatorial CH) e = absurd (false≢true (sym e))
  same_of (Equatorial NP) e = absurd (false≢true (sym e))
  same_of (Equatorial MA) e = refl
  same_of (Equatorial ME) e = refl
  same_of (Equatorial TF) e = refl
  same_of (Equatorial TX) e = refl
  same_of (Equatorial (TXN n)) e = refl
  same_of (Equatorial DAF) e = refl
  same_of (Equatorial FO) e = refl
  same_of (Equatorial HCES) e = refl
  same_of (Equatorial HCEC) e = refl
  same_of (Equatorial DCES) e = refl
  same_of (Equatorial DCEC) e = refl
  same_of (Harmonic h) e = same_harmonic h.result (evaluate sheet h.components) e

-- ---- true

-- the sign, which tells -0 from +0
minus : Float → Bool
minus nan = false
minus (inf s) = s
minus (fin s m e) = s

-- a harmonic's value is 1 or 0
turned : (v : Float) → OneOrZero v → neg #1 ⊗ #1 ⊗ v ≡ neg (neg #1) ⊗ #1 ⊗ v → ⊥
unfolding neg mul of_bits minus
turned v (inl p) e = false≢true (sym (ap minus (rw p at e)))
turned v (inr p) e = false≢true (sym (ap minus (rw p at e)))

-- what is known of a kind's value on ones
abbrev OnOnes : TermKind → Type 0
OnOnes (Equatorial t) = Unit {0}
OnOnes (Harmonic h) = OneOrZero (evaluate ones h.components)

module _ (sinLat cosLat : Float) where
  harmonic_turns : (r : ResultType) (v : Float) → OneOrZero v → sensitive_result r ≡ true
      → harmonic_jacobian r v (point_of ones sinLat cosLat #1) ≡ harmonic_jacobian r v (point_of ones sinLat cosLat (neg #1)) → ⊥
  unfolding point_of
  harmonic_turns ResultType.H v o e d = false≢true e
  harmonic_turns ResultType.D v o e d = false≢true e
  harmonic_turns ResultType.X v o e d = false≢true e
  harmonic_turns ResultType.P v o e d = turned v o (ap (λ (x : Pair). x.dh) d)
  harmonic_turns ResultType.A v o e d = false≢true e
  harmonic_turns ResultType.E v o e d = false≢true e
  harmonic_turns ResultType.Z v o e d = false≢true e
  harmonic_turns ResultType.S v o e d = false≢true e

  turns-of : (k : TermKind) → OnOnes k → pier_sensitive_of k ≡ true
      → kind_jacobian k ones (point_of ones sinLat cosLat #1) ≡ kind_jacobian k ones (point_of ones sinLat cosLat (neg #1)) → ⊥
  unfolding point_of neg mul div of_bits minus
  turns-of (Equatorial IH) o e d = false≢true e
  turns-of (Equatorial ID) o e d = false≢true (sym (ap (λ (x : Pair). minus x.dd) d))
  turns-of (Equatorial CH) o e d = false≢true (sym (ap (λ (x : Pair). minus x.dh) d))
  turns-of (Equatorial NP) o e d = false≢true (sym (ap (λ (x : Pair). minus x.dh) d))
  turns-of (Equatorial MA) o e d = false≢true e
  turns-of (Equatorial ME) o e d = false≢true e
  turns-of (Equatorial TF) o e d = false≢true e
  turns-of (Equatorial TX) o e d = false≢true e
  turns-of (Equatorial (TXN n)) o e d = false≢true e
  turns-of (Equatorial DAF) o e d = false≢true e
  turns-of (Equatorial FO) o e d = false≢true e
  turns-of (Equatorial HCES) o e d = false≢true e
  turns-of (Equatorial HCEC) o e d = false≢true e
  turns-of (Equatorial DCES) o e d = false≢true e
  turns-of (Equatorial DCEC) o e d = false≢true e
  turns-of (Harmonic h) o e d = harmonic_turns h.result (evaluate ones h.components) o e d

-- ---- the term of every reading

abbrev term : List ℕ → Term
term slot = term_or_blank (read_term slot)

pub flag_of_kind : (slot : List ℕ) → (term slot).pier_sensitive ≡ pier_sensitive_of (term slot).kind
flag_of_kind = of_reading (λ (t : Term). t.pier_sensitive ≡ pier_sensitive_of t.kind) (λ t name. refl) (λ n h l e. refl)

value_on_ones : (slot : List ℕ) → OnOnes (term slot).kind
value_on_ones = of_reading (λ (t : Term). OnOnes t.kind) (λ t name. tt) (λ n h l e. subst ReadOnes e (read_ones n))

module _ (slot : List ℕ) (sheet : List Float) (sinLat cosLat p q : Float) where
  same_at : (term slot).pier_sensitive ≡ false → term_jacobian (term slot) sheet sinLat cosLat p ≡ term_jacobian (term slot) sheet sinLat cosLat q
  same_at e = same_of sheet sinLat cosLat p q (term slot).kind (sym (flag_of_kind slot) ∙ e)

pub same_on_both : (slot : List ℕ) → (term_or_blank (read_term slot)).pier_sensitive ≡ false → SameOnBoth (term_or_blank (read_term slot))
same_on_both slot e sheet sinLat cosLat = same_at slot sheet sinLat cosLat _ _ e

pub turns_with_pier : (slot : List ℕ) → (term_or_blank (read_term slot)).pier_sensitive ≡ true → TurnsAt (term_or_blank (read_term slot))
unfolding is_finite of_bits
turns_with_pier slot e =
    record {
      sheet = ones;
      whole = refl;
      finite = refl;
      turns = λ sinLat cosLat. turns-of sinLat cosLat (term slot).kind (value_on_ones slot) (sym (flag_of_kind slot) ∙ e);
    }

-- ---- the public call

-- a term that is not pier sensitive has one answer for every known code
pub jacobian_on_both : (name : List ℕ) (sheet : List Float) (sinLat cosLat : Float) (a b : ℕ) → a ≤ 2 → b ≤ 2
    → (term_or_blank (read_term name)).pier_sensitive ≡ false → jacobian_of name sheet sinLat cosLat a ≡ jacobian_of name sheet sinLat cosLat b
unfolding jacobian_of
jacobian_on_both name sheet sinLat cosLat a b ha hb e =
    rw (le-leb a 2 ha, le-leb b 2 hb, by (read_term name) (same_at name sheet sinLat cosLat (sign_of (side_of a)) (sign_of (side_of b)) e))
  where
    by : (r : Result Term Refusal) → term_jacobian (term_or_blank r) sheet sinLat cosLat (sign_of (side_of a)) ≡ term_jacobian (term_or_blank r) sheet sinLat cosLat (sign_of (side_of b))
        → and_then r (λ t. Ok (term_jacobian t sheet sinLat cosLat (sign_of (side_of a)))) ≡ and_then r (λ t. Ok (term_jacobian t sheet sinLat cosLat (sign_of (side_of b))))
    by (Ok t) q = ap Ok q
    by (Err why) q = refl
