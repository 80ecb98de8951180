-- What a header that is read says of its file. Assumes nothing.
use Prim.Native.Nat.{ℕ}
use mathlib.Core.Path.{◌≡◌, refl}
use mathlib.Core.Bool.{Bool, true, false, cond, ◌&&◌}
use mathlib.Core.List.{List}
use borrow.Author.Tests.{eqb-true, leb-true}
use lib.Dec.{eqb, leb}
use lib.ListN.{length}
use Rattle.std.specs.Prelude.{Result, Ok, Err}
use Rattle.refusal.specs.declared.Refusal.{Refusal}
use Rattle.refusal.specs.declared.Refusal.TheVariants.{Limits, NotAFile}
use Rattle.refusal.specs.Questions.{and_then}
use Rattle.harmonic.specs.Table.{ascii}
use Rattle.terms.specs.Names.{same}
use Rattle.sequence.proofs.Tests.{left_of, right_of}
use Rattle.pmf.specs.declared.Header.{Header}
use Rattle.pmf.specs.File.{file_terms, file_stars, mark_of, version_of, term_count, mode_of, star_count, file_size}
use Rattle.pmf.specs.Pmf.{mode_from, header, header_of, WellFormed}

-- the first of some questions, which are all answered yes, and the rest
module _ {A : Type 0} where
  yes_first : (b : Bool) (why : Refusal) (r : Result A Refusal) (a : A) → cond b r (Err why) ≡ Ok a → (b ≡ true) × (r ≡ Ok a)
  yes_first true why r a e = (refl, e)
  yes_first false why r a e = cc

  ok_first : {B : Type 0} (x : Result B Refusal) {f : B → Result A Refusal} {a : A} → and_then x f ≡ Ok a → (v : B) × (x ≡ Ok v) × (f v ≡ Ok a)
  ok_first (Ok v) e = (v, refl, e)
  ok_first (Err why) e = cc

  same_answer : {a b : A} → ◌≡◌ {A = Result A Refusal} (Ok a) (Ok b) → a ≡ b
  same_answer e = cc

pub formed : (s : List ℕ) (h : Header) → header_of s ≡ Ok h → WellFormed s h
unfolding header_of
formed s h e =
    let m = term_count s in
    let n = star_count s in
    let long = yes_first (leb 9 (length s)) NotAFile _ h e in
    let mark = yes_first (same (mark_of s) (ascii "PMF")) NotAFile _ h long.1 in
    let version = yes_first (eqb (version_of s) 1) NotAFile _ h mark.1 in
    let mode = ok_first (mode_from (mode_of s)) version.1 in
    let limits = yes_first (leb m file_terms && leb n file_stars) Limits _ h mode.2 in
    let size = yes_first (eqb (length s) (file_size m n)) NotAFile _ h limits.1 in
    let is : header mode.0 m n ≡ h = same_answer size.1 in
    record {
      terms_are = rw (← is) refl;
      stars_are = rw (← is) refl;
      terms = leb-true m file_terms (left_of (leb m file_terms) (leb n file_stars) limits.0);
      stars = leb-true n file_stars (right_of (leb m file_terms) (leb n file_stars) limits.0);
      size = eqb-true (length s) (file_size m n) size.0;
    }
