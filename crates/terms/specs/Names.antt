-- What a name slot is read as: questions 2 and 7 to 10 (docs/SCOPE.md 4.1 to 4.3), and the names of terms/mod.rs. Definitions only.
use Rattle.std.specs.Prelude.{ℕ, ◌+◌, ◌-◌, ◌*◌, ◌/◌, ◌%◌, List, [], ◌∷◌, ◌++◌, map, Bool, true, false, ◌&&◌, cond, length, get_or, drop, replicate, ltb, leb, eqb}
use Rattle.std.specs.Prelude.{Option, None, Some, Result, Ok, Err}
use Prim.Native.Char.{code}
use Prim.Native.String.{String}
use Rattle.limits.specs.Limits.{slot_bytes}
use Rattle.refusal.specs.Questions.{ask, asked}
use Rattle.refusal.specs.declared.Refusal.{Refusal}
use Rattle.refusal.specs.declared.Refusal.TheVariants.{Lengths, NotAName, AltAzTerm, UnknownTerm, MalformedHarmonic}
use Rattle.sequence.specs.Sequence.{every}
use Rattle.equatorial.specs.declared.EquatorialTerm.TheVariants.{IH, ID, CH, NP, MA, ME, TF, TX, TXN, DAF, FO, HCES, HCEC, DCES, DCEC}
use Rattle.harmonic.specs.Table.{ascii}
use Rattle.harmonic.specs.Harmonic.{is_digit, parse_harmonic}
use Rattle.harmonic.specs.declared.Harmonic.{Harmonic}
use Rattle.terms.specs.Pier.{pier_sensitive_of}
use Rattle.terms.specs.declared.TermKind.{TermKind}
use Rattle.terms.specs.declared.Term.{Term}
use Rattle.terms.specs.declared.names.Known.{Known}
use Rattle.terms.specs.declared.names.Known.TheVariants.{Equatorial, AltAz}

-- ---- bytes

abbrev pub same : List ℕ → List ℕ → Bool
same [] [] = true
same [] (b ∷ t) = false
same (a ∷ s) [] = false
same (a ∷ s) (b ∷ t) = eqb a b && same s t

-- an ASCII letter's capital; any other byte is itself
abbrev pub capital : ℕ → ℕ
capital b = cond (leb (code "a") b && leb b (code "z")) (b - 32) b

-- sixteen bytes, with zeros behind
abbrev pub padded : List ℕ → List ℕ
padded n = n ++ replicate (slot_bytes - length n) 0

-- the bytes before the first zero
unfoldable pub name_of : List ℕ → List ℕ
name_of [] = []
name_of (b ∷ s) = cond (eqb b 0) [] (b ∷ name_of s)

-- question 7: 1 to 16 bytes below 128, none zero, then zeros
unfoldable pub well_formed : List ℕ → Bool
well_formed slot =
    ltb 0 (length (name_of slot)) && every (λ b. ltb b 128) (name_of slot)
    && every (λ b. eqb b 0) (drop (length (name_of slot)) slot)

-- ---- answers

abbrev pub named : TermKind → List ℕ → Term
named kind name = record { kind = kind; name = name; pier_sensitive = pier_sensitive_of kind }

abbrev pub accepted : TermKind → List ℕ → Result Term Refusal
accepted kind name = Ok (named kind (padded name))

-- what fills a place where no term is
abbrev pub blank_term : Term
blank_term = named (TermKind.Equatorial IH) (padded [])

abbrev pub term_or_blank : Result Term Refusal → Term
term_or_blank (Ok t) = t
term_or_blank (Err why) = blank_term

-- ---- the fixed names

pub record Entry : Type 0 where
  pub name : List ℕ
  pub known : Known

abbrev entry : String → Known → Entry
entry s k = record { name = ascii s; known = k }

abbrev pub fixed_names : List Entry
fixed_names =
    entry "IH" (Equatorial IH) ∷
    entry "ID" (Equatorial ID) ∷
    entry "CH" (Equatorial CH) ∷
    entry "NP" (Equatorial NP) ∷
    entry "MA" (Equatorial MA) ∷
    entry "ME" (Equatorial ME) ∷
    entry "TF" (Equatorial TF) ∷
    entry "TX" (Equatorial TX) ∷
    entry "DAF" (Equatorial DAF) ∷
    entry "FO" (Equatorial FO) ∷
    entry "HCES" (Equatorial HCES) ∷
    entry "HCEC" (Equatorial HCEC) ∷
    entry "DCES" (Equatorial DCES) ∷
    entry "DCEC" (Equatorial DCEC) ∷
    entry "IA" AltAz ∷
    entry "IE" AltAz ∷
    entry "CA" AltAz ∷
    entry "NPAE" AltAz ∷
    entry "AN" AltAz ∷
    entry "AW" AltAz ∷
    []

abbrev pub find : List Entry → List ℕ → Option Known
find [] n = None
find (e ∷ t) n = cond (same n e.name) (Some e.known) (find t n)

-- ---- TX and a number

-- the number whose decimal digits are v's and then those of a text; None where some byte is no digit
unfoldable pub digits_from : ℕ → List ℕ → Option ℕ
digits_from v [] = Some v
digits_from v (c ∷ s) =
    let rest = digits_from (v * 10 + (c - code "0")) s in
    cond (is_digit c) rest None

-- Rust's parse of an unsigned number: a + may stand in front, and there is at least one digit
unfoldable pub unsigned : List ℕ → Option ℕ
unsigned [] = None
unsigned (c ∷ []) = digits_from 0 (c ∷ [])
unsigned (c ∷ d ∷ s) = cond (eqb c (code "+")) (digits_from 0 (d ∷ s)) (digits_from 0 (c ∷ d ∷ s))

-- the decimal digits of a number below 1,000
abbrev pub short_decimal : ℕ → List ℕ
short_decimal v =
    cond (ltb v 10) ((code "0" + v) ∷ [])
    (cond (ltb v 100) ((code "0" + v / 10) ∷ (code "0" + v % 10) ∷ []) ((code "0" + v / 100) ∷ (code "0" + v / 10 % 10) ∷ (code "0" + v % 10) ∷ []))

abbrev pub numbered : Option ℕ → Result Term Refusal
numbered None = Err UnknownTerm
numbered (Some v) = cond (leb 1 v && leb v 255) (accepted (TermKind.Equatorial (TXN v)) (ascii "TX" ++ short_decimal v)) (Err UnknownTerm)

-- ---- harmonics

abbrev pub harmonic_of : List ℕ → Option Harmonic → Result Term Refusal
harmonic_of n None = Err MalformedHarmonic
harmonic_of n (Some h) = accepted (TermKind.Harmonic h) n

unfoldable pub read_harmonic : List ℕ → Result Term Refusal
read_harmonic n = harmonic_of n (parse_harmonic n)

-- ---- the whole

-- a name in capitals, by what it is among the fixed names (question 8); where it is none of them, TX and a number, or a name that begins with H (9 and 10)
unfoldable pub by_known : List ℕ → Option Known → Result Term Refusal
by_known n (Some (Equatorial t)) = accepted (TermKind.Equatorial t) n
by_known n (Some AltAz) = Err AltAzTerm
by_known n None =
    cond (eqb (get_or n 0 0) (code "T") && eqb (get_or n 1 0) (code "X")) (numbered (unsigned (drop 2 n)))
    (cond (eqb (get_or n 0 0) (code "H")) (read_harmonic n) (Err UnknownTerm))

-- question 2, question 7, and questions 8 to 10 of the name in capitals
unfoldable pub read_term : List ℕ → Result Term Refusal
read_term slot =
    let n = map capital (name_of slot) in
    asked
    (ask (eqb (length slot) slot_bytes) Lengths ∷
    ask (well_formed slot) NotAName ∷
    [])
    (by_known n (find fixed_names n))
