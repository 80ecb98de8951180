-- Input longer than any file is listed as its first 31,776 bytes are, one more than the longest file has: no more need be kept. Assumes nothing.
use Prim.Native.Nat.{ℕ, ◌≤◌, ◌<◌}
use native.Mathlib.Omega.{arith}
use mathlib.Core.Path.{◌≡◌, refl, sym, ap, ◌∙◌}
use mathlib.Core.Bool.{Bool, true, false, cond, not, ◌&&◌}
use mathlib.Core.List.{List, [], ◌∷◌}
use borrow.Author.Tests.{le-leb, ne_eqb}
use lib.Dec.{T, leb, eqb, leb→le, nleb→lt}
use lib.ListN.{length, take}
use lib.Seq.{take_all, length-take-le}
use lib.Ieee.Fits.{and_l, and_r}
use Rattle.std.specs.Prelude.{Result, Ok, Err}
use Rattle.refusal.specs.declared.Refusal.{Refusal}
use Rattle.refusal.specs.declared.Refusal.TheVariants.{Limits, NotAFile}
use Rattle.refusal.specs.Refusal.{number_of}
use Rattle.refusal.specs.Questions.{ask, asked, and_then}
use Rattle.harmonic.specs.Table.{ascii}
use Rattle.terms.specs.Names.{same}
use Rattle.listing.specs.Listing.{refusal_text}
use Rattle.pmf.specs.declared.Header.{Header}
use Rattle.pmf.specs.declared.Mode.{Mode}
use Rattle.pmf.specs.File.{file_terms, file_stars, mark_of, version_of, term_count, mode_of, star_count, file_size, longest_file}
use Rattle.pmf.specs.Pmf.{mode_from, header, header_of, header_text, listed}

-- the refusal of a file that is longer than any, by its mark, version, mode and limits
abbrev after_mode : Result Mode Refusal → Bool → Refusal
after_mode (Ok k) limits = cond limits NotAFile Limits
after_mode (Err why) limits = why

abbrev no_of : Bool → Bool → Result Mode Refusal → Bool → Refusal
no_of mark version mode limits = cond mark (cond version (after_mode mode limits) NotAFile) NotAFile

too_long : (mark version : Bool) (mode : Result Mode Refusal) (limits size : Bool) (f : Mode → Header) → (T limits → size ≡ false)
    → asked (ask mark NotAFile ∷ ask version NotAFile ∷ [])
    (and_then mode (λ k. asked (ask limits Limits ∷ ask size NotAFile ∷ []) (Ok (f k)))) ≡ Err (no_of mark version mode limits)
too_long false version mode limits size f h = refl
too_long true false mode limits size f h = refl
too_long true true (Err why) limits size f h = refl
too_long true true (Ok k) false size f h = refl
too_long true true (Ok k) true size f h = rw (h tt)

module _ (s : List ℕ) where
  -- the answers of a header
  abbrev limitsOf : Bool
  limitsOf = leb (term_count s) file_terms && leb (star_count s) file_stars

  abbrev headerNo : Refusal
  headerNo = no_of (same (mark_of s) (ascii "PMF")) (eqb (version_of s) 1) (mode_from (mode_of s)) limitsOf

  no-file : longest_file < length s → T limitsOf → length s ≡ file_size (term_count s) (star_count s) → ⊥
  no-file h t e =
      let m = leb→le (term_count s) file_terms (and_l (leb (term_count s) file_terms) (leb (star_count s) file_stars) t) in
      let n = leb→le (star_count s) file_stars (and_r (leb (term_count s) file_terms) (leb (star_count s) file_stars) t) in
      omega arith

  long-no : longest_file < length s → header_of s ≡ Err headerNo
  unfolding header_of
  long-no h =
      rw (le-leb 9 (length s) (omega arith))
      (too_long (same (mark_of s) (ascii "PMF")) (eqb (version_of s) 1) (mode_from (mode_of s)) limitsOf
      (eqb (length s) (file_size (term_count s) (star_count s))) (λ k. header k (term_count s) (star_count s))
      (λ t. ne_eqb (length s) (file_size (term_count s) (star_count s)) (no-file h t)))

  long-listed : longest_file < length s → listed s ≡ refusal_text (number_of headerNo)
  unfolding listed
  long-listed h = ap (header_text s) (long-no h)

cut_length : (s : List ℕ) → 31776 ≤ length s → longest_file < length (take 31776 s)
cut_length s h = rw (length-take-le 31776 s h) (omega arith)

header_kept : (s : List ℕ) → 31776 ≤ length s → headerNo (take 31776 s) ≡ headerNo s
header_kept (a ∷ b ∷ c ∷ d ∷ e ∷ f ∷ g ∷ i ∷ j ∷ s) h = refl
header_kept [] h = absurd (omega arith)
header_kept (a ∷ []) h = absurd (omega arith)
header_kept (a ∷ b ∷ []) h = absurd (omega arith)
header_kept (a ∷ b ∷ c ∷ []) h = absurd (omega arith)
header_kept (a ∷ b ∷ c ∷ d ∷ []) h = absurd (omega arith)
header_kept (a ∷ b ∷ c ∷ d ∷ e ∷ []) h = absurd (omega arith)
header_kept (a ∷ b ∷ c ∷ d ∷ e ∷ f ∷ []) h = absurd (omega arith)
header_kept (a ∷ b ∷ c ∷ d ∷ e ∷ f ∷ g ∷ []) h = absurd (omega arith)
header_kept (a ∷ b ∷ c ∷ d ∷ e ∷ f ∷ g ∷ i ∷ []) h = absurd (omega arith)

pub cut_listed : (s : List ℕ) → listed (take 31776 s) ≡ listed s
cut_listed s = by (leb 31776 (length s)) (leb→le 31776 (length s)) (nleb→lt 31776 (length s))
  where
    by : (b : Bool) → (T b → 31776 ≤ length s) → (T (not b) → length s < 31776) → listed (take 31776 s) ≡ listed s
    by true long short =
        let h = long tt in
        long-listed (take 31776 s) (cut_length s h) ∙ ap (λ why. refusal_text (number_of why)) (header_kept s h) ∙ sym (long-listed s (omega arith))
    by false long short = let h = short tt in ap listed (take_all 31776 s (omega arith))
