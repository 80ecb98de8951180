-- The term of a reading: an equatorial one, or a harmonic as `parse_harmonic` reads a name of at most 16 bytes. Assumes nothing.
use Prim.Native.Nat.{ℕ, ◌≤◌}
use Prim.Native.Char.{code}
use native.Mathlib.Omega.{arith}
use mathlib.Core.Path.{◌≡◌, refl}
use mathlib.Core.Bool.{Bool, true, false, ◌&&◌, cond}
use mathlib.Core.List.{List, [], ◌++◌, map}
use borrow.Author.Tests.{eqb-true}
use lib.Dec.{eqb, leb}
use lib.ListN.{length, get_or, drop, length-map}
use Rattle.std.specs.Prelude.{Option, None, Some, Result, Err}
use Rattle.refusal.specs.declared.Refusal.{Refusal}
use Rattle.refusal.specs.declared.Refusal.TheVariants.{Lengths, NotAName, AltAzTerm, UnknownTerm, MalformedHarmonic}
use Rattle.equatorial.specs.declared.EquatorialTerm.{EquatorialTerm}
use Rattle.harmonic.specs.Table.{ascii}
use Rattle.harmonic.specs.Harmonic.{parse_harmonic}
use Rattle.harmonic.specs.declared.Harmonic.{Harmonic as Spelled}
use Rattle.terms.specs.Names.{capital, padded, name_of, well_formed, named, term_or_blank, accepted, numbered, unsigned, short_decimal, harmonic_of, read_harmonic}
use Rattle.terms.specs.Names.{fixed_names, find, by_known, read_term}
use Rattle.terms.specs.declared.TermKind.TheVariants.{Equatorial, Harmonic}
use Rattle.terms.specs.declared.Term.{Term}
use Rattle.terms.specs.declared.names.Known.{Known}
use Rattle.terms.proofs.Slots.{end_within}

-- what holds of every such term holds of the term of every reading, and of the blank one that stands for a refused reading
module _ (P : Term → Type 0) (equatorial : (t : EquatorialTerm) (name : List ℕ) → P (named (Equatorial t) name))
    (harmonic : (n : List ℕ) (h : Spelled) → length n ≤ 16 → parse_harmonic n ≡ Some h → P (named (Harmonic h) (padded n))) where
  abbrev Holds : Result Term Refusal → Type 0
  Holds r = P (term_or_blank r)

  either : (t : Bool) (a b : Result Term Refusal) → (t ≡ true → Holds a) → Holds b → Holds (cond t a b)
  either true a b p q = p refl
  either false a b p q = q

  of-refused : (why : Refusal) → Holds (Err why)
  of-refused why = equatorial EquatorialTerm.IH (padded [])

  of_number : (o : Option ℕ) → Holds (numbered o)
  of_number None = of-refused UnknownTerm
  of_number (Some v) =
      let name = ascii "TX" ++ short_decimal v in
      either (leb 1 v && leb v 255) (accepted (Equatorial (EquatorialTerm.TXN v)) name) (Err UnknownTerm)
      (λ e. equatorial (EquatorialTerm.TXN v) (padded name)) (of-refused UnknownTerm)

  module _ (n : List ℕ) (h : length n ≤ 16) where
    of_harmonic : Holds (read_harmonic n)
    unfolding read_harmonic
    of_harmonic = by (parse_harmonic n) refl
      where
        by : (o : Option Spelled) → parse_harmonic n ≡ o → Holds (harmonic_of n o)
        by None e = of-refused MalformedHarmonic
        by (Some s) e = harmonic n s h e

    of-known : (k : Option Known) → Holds (by_known n k)
    unfolding by_known
    of-known (Some (Known.Equatorial t)) = equatorial t (padded n)
    of-known (Some Known.AltAz) = of-refused AltAzTerm
    of-known None =
        either (eqb (get_or n 0 0) (code "T") && eqb (get_or n 1 0) (code "X")) _ _ (λ e. of_number (unsigned (drop 2 n)))
        (either (eqb (get_or n 0 0) (code "H")) _ _ (λ e. of_harmonic) (of-refused UnknownTerm))

  of-name : (slot : List ℕ) → length slot ≡ 16 → Holds (by_known (map capital (name_of slot)) (find fixed_names (map capital (name_of slot))))
  of-name slot h =
      let n = map capital (name_of slot) in
      of-known n (omega (arith, length-map (name_of slot) capital, end_within slot)) (find fixed_names n)

  pub of_reading : (slot : List ℕ) → P (term_or_blank (read_term slot))
  unfolding read_term
  of_reading slot =
      either (eqb (length slot) 16) _ (Err Lengths)
      (λ e. either (well_formed slot) _ (Err NotAName) (λ w. of-name slot (eqb-true (length slot) 16 e)) (of-refused NotAName))
      (of-refused Lengths)
