-- A term that is read is rotational by its name exactly where it is by its kind. Assumes nothing.
use Prim.Native.Nat.{ℕ}
use Prim.Native.Char.{code}
use mathlib.Core.Path.{◌≡◌, refl, sym, ap₂, subst}
use mathlib.Core.Bool.{Bool, true, false, not, ◌&&◌, cond, false≢true}
use mathlib.Core.List.{List, [], ◌∷◌, map}
use lib.ListN.{length, get_or, drop}
use lib.Dec.{eqb, leb}
use borrow.Author.Tests.{eqb-true, not-true}
use Rattle.std.specs.Prelude.{Option, None, Some, Result, Ok, Err, IsOk}
use Rattle.refusal.specs.declared.Refusal.{Refusal}
use Rattle.refusal.specs.declared.Refusal.TheVariants.{Lengths, NotAName, UnknownTerm}
use Rattle.sequence.specs.Sequence.{every}
use Rattle.sequence.proofs.Tests.{left_of, right_of}
use Rattle.harmonic.specs.Harmonic.{parse_harmonic}
use Rattle.harmonic.specs.declared.Harmonic.{Harmonic}
use Rattle.terms.specs.declared.Term.{Term}
use Rattle.terms.specs.Names.{same, capital, padded, name_of, well_formed, Entry, fixed_names, find}
use Rattle.terms.specs.Names.{unsigned, numbered, harmonic_of, read_harmonic, by_known, read_term, term_or_blank}
use Rattle.lm_system.specs.System.{rotational}
use Rattle.lm_system.specs.Kinds.{of_kind}

-- what is to be shown of a reading
abbrev Agrees : Result Term Refusal → Type 0
Agrees (Ok t) = rotational t.name ≡ of_kind t.kind
Agrees (Err why) = Unit {0}

same_equal : (a b : List ℕ) → same a b ≡ true → a ≡ b
same_equal [] [] e = refl
same_equal [] (y ∷ b) e = absurd (false≢true e)
same_equal (x ∷ a) [] e = absurd (false≢true e)
same_equal (x ∷ a) (y ∷ b) e =
    ap₂ (λ (u : ℕ) (l : List ℕ). u ∷ l) (eqb-true x y (left_of (eqb x y) (same a b) e)) (same_equal a b (right_of (eqb x y) (same a b) e))

either : (t : Bool) (a b : Result Term Refusal) → (t ≡ true → Agrees a) → Agrees b → Agrees (cond t a b)
either true a b f g = f refl
either false a b f g = g

-- the same as a test
abbrev agrees : Result Term Refusal → Bool
agrees (Ok t) = cond (rotational t.name) (of_kind t.kind) (not (of_kind t.kind))
agrees (Err why) = true

tested : (r : Result Term Refusal) → agrees r ≡ true → Agrees r
tested (Ok t) e = by (rotational t.name) (of_kind t.kind) e
  where
    by : (a b : Bool) → cond a b (not b) ≡ true → a ≡ b
    by true b e = sym e
    by false b e = sym (not-true b e)
tested (Err why) e = tt

-- ---- the fixed names

all_agree : every (λ (e : Entry). agrees (by_known e.name (Some e.known))) fixed_names ≡ true
unfolding by_known
all_agree = refl

fixed : (t : List Entry) (n : List ℕ) → every (λ (e : Entry). agrees (by_known e.name (Some e.known))) t ≡ true → Agrees (by_known n None)
    → Agrees (by_known n (find t n))
fixed [] n a o = o
fixed (e ∷ t) n a o = by (same n e.name) refl (fixed t n (right_of here rest a) o)
  where
    here : Bool
    here = agrees (by_known e.name (Some e.known))

    rest : Bool
    rest = every (λ (e : Entry). agrees (by_known e.name (Some e.known))) t

    by : (q : Bool) → same n e.name ≡ q → Agrees (by_known n (find t n)) → Agrees (by_known n (cond q (Some e.known) (find t n)))
    by true q later =
        let first = tested (by_known e.name (Some e.known)) (left_of here rest a) in
        subst (λ (l : List ℕ). Agrees (by_known l (Some e.known))) (sym (same_equal n e.name q)) first
    by false q later = later

-- ---- TX and a number, and a harmonic

of_number : (o : Option ℕ) → Agrees (numbered o)
of_number None = tt
of_number (Some v) = either (leb 1 v && leb v 255) _ (Err UnknownTerm) (λ q. refl) tt

begins : (n : List ℕ) → eqb (get_or n 0 0) (code "H") ≡ true → rotational (padded n) ≡ false
begins [] e = absurd (false≢true e)
begins (b ∷ n) e = rw (eqb-true b 72 e) refl

of_harmonic : (n : List ℕ) (h : Option Harmonic) → eqb (get_or n 0 0) (code "H") ≡ true → Agrees (harmonic_of n h)
of_harmonic n None e = tt
of_harmonic n (Some h) e = begins n e

of_other : (n : List ℕ) → Agrees (by_known n None)
unfolding by_known read_harmonic
of_other n =
    either (eqb (get_or n 0 0) (code "T") && eqb (get_or n 1 0) (code "X")) _ _ (λ q. of_number (unsigned (drop 2 n)))
    (either (eqb (get_or n 0 0) (code "H")) _ (Err UnknownTerm) (λ q. of_harmonic n (parse_harmonic n) q) tt)

-- ---- a slot

agrees_read : (s : List ℕ) → Agrees (read_term s)
unfolding read_term
agrees_read s = by (eqb (length s) 16) (well_formed s)
  where
    n : List ℕ
    n = map capital (name_of s)

    by : (t w : Bool) → Agrees (cond t (cond w (by_known n (find fixed_names n)) (Err NotAName)) (Err Lengths))
    by true true = fixed fixed_names n all_agree (of_other n)
    by true false = tt
    by false w = tt

read_agrees : (r : Result Term Refusal) → Agrees r → IsOk r → rotational (term_or_blank r).name ≡ of_kind (term_or_blank r).kind
read_agrees (Ok t) a h = a
read_agrees (Err why) a h = absurd (false≢true h)

pub rotational_by_kind : (s : List ℕ) → IsOk (read_term s)
    → rotational (term_or_blank (read_term s)).name ≡ of_kind (term_or_blank (read_term s)).kind
rotational_by_kind s = read_agrees (read_term s) (agrees_read s)
