-- A name that is read is stored in sixteen bytes, and these are read too, and stored as themselves. Assumes nothing.
use Prim.Native.Char.{code}
use Prim.Native.Nat.{ℕ, zero, suc, ◌-◌, ◌≤◌, ◌<◌}
use native.Mathlib.Omega.{arith}
use mathlib.Core.Path.{◌≡◌, refl, sym, ◌∙◌, ap, ap₂, subst}
use mathlib.Core.Bool.{Bool, true, false, cond, ◌&&◌, ◌||◌, false≢true}
use mathlib.Core.List.{List, [], ◌∷◌, ◌++◌, map}
use borrow.Author.Tests.{eq-eqb, eqb-true, eqb-false, ne_eqb, lt-ltb, ltb-true, leb-true, lt-leb}
use lib.Dec.{eqb, ltb, leb}
use lib.ListN.{length, get_or, drop, replicate, length-map, length-append, length-replicate}
use lib.Seq.{drop_at}
use Rattle.sequence.specs.Sequence.{every}
use Rattle.sequence.proofs.Tests.{left_of, right_of}
use Rattle.harmonic.specs.Table.{ascii}
use Rattle.harmonic.specs.Harmonic.{parse_harmonic}
use Rattle.harmonic.specs.declared.Harmonic.{Harmonic}
use Rattle.std.specs.Prelude.{Option, None, Some, Result, Ok, Err}
use Rattle.refusal.specs.declared.Refusal.{Refusal}
use Rattle.refusal.specs.declared.Refusal.TheVariants.{Lengths, NotAName, UnknownTerm}
use Rattle.equatorial.specs.declared.EquatorialTerm.TheVariants.{TXN}
use Rattle.terms.specs.Names.{same, accepted, term_or_blank, capital, padded, name_of, well_formed, read_term, by_known, find, fixed_names}
use Rattle.terms.specs.Names.{numbered, read_harmonic, harmonic_of, unsigned, digits_from, short_decimal}
use Rattle.terms.specs.declared.Term.{Term}
use Rattle.terms.specs.declared.TermKind.{TermKind}
use Rattle.terms.specs.declared.names.Known.{Known}
use Rattle.terms.specs.declared.names.Known.TheVariants.{Equatorial, AltAz}
use Rattle.sequence.proofs.Fills.{last_or}

-- ---- capitals

module _ (b : ℕ) where
  capital-twice : capital (capital b) ≡ capital b
  capital-twice = by (leb 97 b && leb b 122) refl
    where
      by : (t : Bool) → (leb 97 b && leb b 122) ≡ t → capital (cond t (b - 32) b) ≡ cond t (b - 32) b
      by true e =
          let hi = leb-true b 122 (right_of (leb 97 b) (leb b 122) e) in
          rw (lt-leb 97 (b - 32) (omega arith))
      by false e = rw e

  capital-kept : (b ≡ 0 → ⊥) → capital b ≡ 0 → ⊥
  capital-kept h z = by (leb 97 b && leb b 122) refl z
    where
      by : (t : Bool) → (leb 97 b && leb b 122) ≡ t → cond t (b - 32) b ≡ 0 → ⊥
      by true e z = let lo = leb-true 97 b (left_of (leb 97 b) (leb b 122) e) in omega arith
      by false e z = h z

  capital-ascii : ltb b 128 ≡ true → ltb (capital b) 128 ≡ true
  capital-ascii h = by (leb 97 b && leb b 122)
    where
      by : (t : Bool) → ltb (cond t (b - 32) b) 128 ≡ true
      by true = let l = ltb-true b 128 h in lt-ltb (b - 32) 128 (omega arith)
      by false = h

capitals_twice : (l : List ℕ) → map capital (map capital l) ≡ map capital l
capitals_twice [] = refl
capitals_twice (b ∷ l) = ap₂ (λ (x : ℕ) (r : List ℕ). x ∷ r) (capital-twice b) (capitals_twice l)

capitals_ascii : (l : List ℕ) → every (λ b. ltb b 128) l ≡ true → every (λ b. ltb b 128) (map capital l) ≡ true
capitals_ascii [] e = refl
capitals_ascii (b ∷ l) e =
    rw (capital-ascii b (left_of (ltb b 128) (every (λ b. ltb b 128) l) e), capitals_ascii l (right_of (ltb b 128) (every (λ b. ltb b 128) l) e))

-- ---- a name with zeros behind

zeros : (k : ℕ) → every (λ b. eqb b 0) (replicate k 0) ≡ true
zeros zero = refl
zeros (suc k) = zeros k

no_name : (k : ℕ) → name_of (replicate k 0) ≡ []
unfolding name_of
no_name zero = refl
no_name (suc k) = refl

short : (s : List ℕ) → length (name_of s) ≤ length s
unfolding name_of
short [] = omega arith
short (b ∷ s) = by (eqb b 0) (short s)
  where
    by : (t : Bool) → length (name_of s) ≤ length s → length (cond t [] (b ∷ name_of s)) ≤ suc (length s)
    by true ih = omega arith
    by false ih = omega arith

name_again : (s : List ℕ) (k : ℕ) → name_of (map capital (name_of s) ++ replicate k 0) ≡ map capital (name_of s)
unfolding name_of
name_again [] k = no_name k
name_again (b ∷ s) k = by (eqb b 0) refl (name_again s k)
  where
    by : (t : Bool) → eqb b 0 ≡ t → name_of (map capital (name_of s) ++ replicate k 0) ≡ map capital (name_of s)
        → name_of (map capital (cond t [] (b ∷ name_of s)) ++ replicate k 0) ≡ map capital (cond t [] (b ∷ name_of s))
    by true z ih = no_name k
    by false z ih = rw (ne_eqb (capital b) 0 (capital-kept b (eqb-false b 0 z))) (ap (λ (l : List ℕ). capital b ∷ l) ih)

module _ (s : List ℕ) (sixteen : length s ≡ 16) where
  padded-length : length (padded (map capital (name_of s))) ≡ 16
  padded-length =
      let n = map capital (name_of s) in
      let long : length n ≤ 16 = simp length-map (omega (arith, short s)) in
      length-append n (replicate (16 - length n) 0) ∙ simp length-replicate (omega arith)

  read_again : well_formed s ≡ true → read_term (padded (map capital (name_of s))) ≡ read_term s
  unfolding read_term well_formed
  read_again w =
      let n = map capital (name_of s) in
      let r : List ℕ = replicate (16 - length n) 0 in
      let name : name_of (n ++ r) ≡ n = name_again s (16 - length n) in
      let front = left_of (ltb 0 (length (name_of s)) && every (λ b. ltb b 128) (name_of s)) (every (λ b. eqb b 0) (drop (length (name_of s)) s)) w in
      let some_bytes : ltb 0 (length n) ≡ true =
      rw (length-map (name_of s) capital) (left_of (ltb 0 (length (name_of s))) (every (λ b. ltb b 128) (name_of s)) front) in
      let asciis : every (λ b. ltb b 128) n ≡ true =
      capitals_ascii (name_of s) (right_of (ltb 0 (length (name_of s))) (every (λ b. ltb b 128) (name_of s)) front) in
      let behind : every (λ b. eqb b 0) (drop (length n) (n ++ r)) ≡ true = ap (every (λ b. eqb b 0)) (drop_at n r (length n) refl) ∙ zeros (16 - length n) in
      rw (name, eq-eqb (length (n ++ r)) 16 padded-length, some_bytes, asciis, behind, eq-eqb (length s) 16 sixteen, w, capitals_twice (name_of s))

-- ---- TX and a number

same_equal : (a b : List ℕ) → same a b ≡ true → a ≡ b
same_equal [] [] e = refl
same_equal [] (y ∷ b) e = absurd (false≢true e)
same_equal (x ∷ a) [] e = absurd (false≢true e)
same_equal (x ∷ a) (y ∷ b) e =
    ap₂ (λ (u : ℕ) (l : List ℕ). u ∷ l) (eqb-true x y (left_of (eqb x y) (same a b) e)) (same_equal a b (right_of (eqb x y) (same a b) e))

all_to : ℕ → (ℕ → Bool) → Bool
all_to zero p = true
all_to (suc n) p = all_to n p && p n

all_at : (n i : ℕ) (p : ℕ → Bool) → all_to n p ≡ true → i < n → p i ≡ true
unfolding all_to
all_at zero i p e h = absurd (omega arith)
all_at (suc n) i p e h =
    last_or i n h (λ g. all_at n i p (left_of (all_to n p) (p n) e) g) (λ q. ap p q ∙ right_of (all_to n p) (p n) e)

abbrev number_name : ℕ → List ℕ
number_name v = padded (ascii "TX" ++ short_decimal v)

-- whether a reading is of a term that is stored as l
abbrev stored_as : List ℕ → Result Term Refusal → Bool
stored_as l (Ok t) = same t.name l
stored_as l (Err why) = false

good : ℕ → Bool
good v = leb v 0 || eqb (length (number_name v)) 16 && stored_as (number_name v) (read_term (number_name v))

all_good : all_to 256 good ≡ true
unfolding all_to good read_term well_formed name_of by_known unsigned digits_from
all_good = refl

-- a name that is stored: of sixteen bytes, which are read, and stored as themselves
pub record Settled (l : List ℕ) : Type 0 where
  pub sixteen : length l ≡ 16
  pub term : Term
  pub read : read_term l ≡ Ok term
  pub kept : term.name ≡ l

settled : (l : List ℕ) → (eqb (length l) 16 && stored_as l (read_term l)) ≡ true → Settled l
settled l e = by (read_term l) refl (right_of (eqb (length l) 16) (stored_as l (read_term l)) e)
  where
    by : (r : Result Term Refusal) → read_term l ≡ r → stored_as l r ≡ true → Settled l
    by (Ok t) read k = record {
      sixteen = eqb-true _ 16 (left_of (eqb (length l) 16) (stored_as l (read_term l)) e);
      term = t;
      read = read;
      kept = same_equal t.name l k;
    }
    by (Err why) read k = absurd (false≢true k)

number_settled : (v : ℕ) → (leb 1 v && leb v 255) ≡ true → Settled (number_name v)
unfolding good
number_settled v e =
    let low = leb-true 1 v (left_of (leb 1 v) (leb v 255) e) in
    let high = leb-true v 255 (right_of (leb 1 v) (leb v 255) e) in
    settled (number_name v) (rw (lt-leb v 0 low) at (all_at 256 v good all_good (omega arith)))

-- ---- the name that is stored is the padded one, or TX and a number

module _ (P : List ℕ → Type 0) (n : List ℕ)
    (same_name : P (padded n)) (number-name : (v : ℕ) → (leb 1 v && leb v 255) ≡ true → P (number_name v)) (t : Term) where
  either : (c : Bool) (a b : Result Term Refusal) → cond c a b ≡ Ok t → (c ≡ true → a ≡ Ok t → P t.name) → (b ≡ Ok t → P t.name) → P t.name
  either true a b e f g = f refl e
  either false a b e f g = g e

  of_name : (kind : TermKind) (m : List ℕ) → accepted kind m ≡ Ok t → P (padded m) → P t.name
  of_name kind m e p = subst P (ap (λ (r : Result Term Refusal). (term_or_blank r).name) e) p

  of_number : (o : Option ℕ) → numbered o ≡ Ok t → P t.name
  of_number None e = absurd (cc)
  of_number (Some v) e =
      either (leb 1 v && leb v 255) (accepted (TermKind.Equatorial (TXN v)) (ascii "TX" ++ short_decimal v)) (Err UnknownTerm) e
      (λ q z. of_name (TermKind.Equatorial (TXN v)) (ascii "TX" ++ short_decimal v) z (number-name v q)) (λ z. absurd (cc))

  of_harmonic : (o : Option Harmonic) → harmonic_of n o ≡ Ok t → P t.name
  of_harmonic None e = absurd (cc)
  of_harmonic (Some h) e = of_name (TermKind.Harmonic h) n e same_name

  stored_of : (k : Option Known) → by_known n k ≡ Ok t → P t.name
  unfolding by_known read_harmonic
  stored_of (Some (Equatorial q)) e = of_name (TermKind.Equatorial q) n e same_name
  stored_of (Some AltAz) e = absurd (cc)
  stored_of None e =
      either (eqb (get_or n 0 0) (code "T") && eqb (get_or n 1 0) (code "X")) (numbered (unsigned (drop 2 n))) _ e (λ q z. of_number (unsigned (drop 2 n)) z)
      (λ z. either (eqb (get_or n 0 0) (code "H")) (read_harmonic n) (Err UnknownTerm) z (λ q y. of_harmonic (parse_harmonic n) y) (λ y. absurd (cc)))

-- ---- a slot that is read

-- its questions were answered yes
pub slot_facts : (s : List ℕ) (t : Term) → read_term s ≡ Ok t → (length s ≡ 16) × (well_formed s ≡ true)
unfolding read_term
slot_facts s t e = by (eqb (length s) 16) (well_formed s) _ refl e
  where
    by : (c w : Bool) (r : Result Term Refusal) → eqb (length s) 16 ≡ c → cond c (cond w r (Err NotAName)) (Err Lengths) ≡ Ok t
        → (length s ≡ 16) × (w ≡ true)
    by true true r q e = (eqb-true _ 16 q, refl)
    by true false r q e = absurd (cc)
    by false w r q e = absurd (cc)

module _ (s : List ℕ) (t : Term) (ok : read_term s ≡ Ok t) where
  is_known : read_term s ≡ by_known (map capital (name_of s)) (find fixed_names (map capital (name_of s)))
  unfolding read_term
  is_known = let facts = slot_facts s t ok in rw (eq-eqb (length s) 16 facts.0, facts.1)

  -- the padded name, where that is what is stored
  padded-settled : t.name ≡ padded (map capital (name_of s)) → Settled (padded (map capital (name_of s)))
  padded-settled e =
      let facts = slot_facts s t ok in
      record { sixteen = padded-length s facts.0; term = t; read = read_again s facts.0 facts.1 ∙ ok; kept = e }

  pub read_stored : Settled t.name
  read_stored =
      let n = map capital (name_of s) in
      stored_of (λ (l : List ℕ). t.name ≡ l → Settled l) n padded-settled (λ v q e. number_settled v q) t (find fixed_names n) (sym is_known ∙ ok) refl
