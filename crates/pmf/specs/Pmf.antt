-- The file program from bytes to listing (docs/SCOPE.md 11.2 and 11.3). Definitions only.
use Rattle.std.specs.Prelude.{ℕ, ◌*◌, ◌≤◌, ◌≡◌, ◌&&◌, cond, List, [], ◌∷◌, ◌++◌, leb, eqb, length, drop, replicate, Result, Ok, Err}
use Rattle.float.specs.Float.{#0}
use Rattle.refusal.specs.declared.Refusal.{Refusal}
use Rattle.refusal.specs.declared.Refusal.TheVariants.{Limits, NotAFile}
use Rattle.refusal.specs.Refusal.{number_of}
use Rattle.refusal.specs.Questions.{ask, asked, and_then}
use Rattle.harmonic.specs.Table.{ascii}
use Rattle.terms.specs.Names.{same}
use Rattle.solver.specs.declared.FitResult.{FitResult}
use Rattle.solver.specs.declared.IterOptions.{IterOptions}
use Rattle.solver.specs.declared.SigmaBy.TheVariants.{Stars}
use Rattle.solver.specs.Call.{FitInputs, Buffers, buffers, sizes_of}
use Rattle.validate.specs.Questions.{scratch_needed, asked_of}
use Rattle.outcome.specs.Outcome.{Outcome, decided}
use Rattle.single_step.specs.SingleStep.{fitted as single_step_case}
use Rattle.iterated.specs.Iterated.{fitted as iterated}
use Rattle.listing.specs.Listing.{fit_text, refusal_text}
use Rattle.listing.specs.Text.{listing_room}
use Rattle.pmf.specs.declared.Header.{Header}
use Rattle.pmf.specs.declared.Mode.{Mode}
use Rattle.pmf.specs.declared.Mode.TheVariants.{SingleStep, Iterated, Robust}
use Rattle.pmf.specs.File.{file_terms, file_stars, mark_of, version_of, term_count, mode_of, star_count, file_size, input_of, options_of}

-- ---- is the file well formed?

-- the mode of a code: 0, 1 and 3 have one
abbrev pub mode_from : ℕ → Result Mode Refusal
mode_from k = cond (eqb k 0) (Ok SingleStep) (cond (eqb k 1) (Ok Iterated) (cond (eqb k 3) (Ok Robust) (Err NotAFile)))

abbrev pub header : Mode → ℕ → ℕ → Header
header mode m n = record { mode = mode; terms = m; stars = n }

-- the header, or the refusal of the first no
unfoldable pub header_of : List ℕ → Result Header Refusal
header_of s =
    let m = term_count s in
    let n = star_count s in
    asked (ask (leb 9 (length s)) NotAFile ∷ ask (same (mark_of s) (ascii "PMF")) NotAFile ∷ ask (eqb (version_of s) 1) NotAFile ∷ [])
    (and_then (mode_from (mode_of s)) (λ mode.
    asked (ask (leb m file_terms && leb n file_stars) Limits ∷ ask (eqb (length s) (file_size m n)) NotAFile ∷ []) (Ok (header mode m n))))

-- what is known of a file whose header is read
pub record WellFormed (s : List ℕ) (h : Header) : Type 0 where
  pub terms_are : h.terms ≡ term_count s
  pub stars_are : h.stars ≡ star_count s
  pub terms : term_count s ≤ file_terms
  pub stars : star_count s ≤ file_stars
  pub size : length s ≡ file_size (term_count s) (star_count s)

-- ---- the fit

-- the buffers that the fit of the largest file needs
unfoldable pub room : Buffers
room =
    let terms = replicate file_terms #0 in
    buffers terms terms terms (replicate (3 * file_stars) #0) (replicate (scratch_needed file_terms file_stars) #0)

-- the fit of a mode; sigma is by stars
unfoldable pub fit_of : Mode → FitInputs → IterOptions → Buffers → Outcome
fit_of SingleStep l o b = single_step_case l Stars b
fit_of Iterated l o b = iterated l Stars o b
fit_of Robust l o b = iterated l Stars o b

-- the questions are put to every field in every mode, then the fit is made
unfoldable pub outcome_of : Mode → FitInputs → IterOptions → Outcome
outcome_of mode l o = decided (asked_of l o (sizes_of room)) (fit_of mode l o room) room

-- ---- the listing

abbrev pub answer_text : FitInputs → Buffers → Result FitResult Refusal → List ℕ
answer_text l b (Ok r) = fit_text l.names (length l.coefficients) b.coefficients b.sigma r
answer_text l b (Err why) = refusal_text (number_of why)

abbrev pub outcome_text : FitInputs → Outcome → List ℕ
outcome_text l o = answer_text l o.left o.answer

-- of a file, by its header
abbrev pub header_text : List ℕ → Result Header Refusal → List ℕ
header_text s (Ok h) = outcome_text (input_of s) (outcome_of h.mode (input_of s) (options_of s))
header_text s (Err why) = refusal_text (number_of why)

-- what the program prints of a file
unfoldable pub listed : List ℕ → List ℕ
listed s = header_text s (header_of s)

-- ---- the call

-- how many bytes were written, and what the buffer holds at the end
pub record Listed : Type 0 where
  pub count : ℕ
  pub buffer : List ℕ

abbrev pub written : List ℕ → List ℕ → Listed
written text d = record { count = length text; buffer = text ++ drop (length text) d }

-- a buffer that is too short for some listing is left as it was
unfoldable pub listed_in : List ℕ → List ℕ → Listed
listed_in s d = cond (leb listing_room (length d)) (written (listed s) d) (written [] d)
