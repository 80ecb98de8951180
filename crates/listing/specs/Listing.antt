-- The lines that the file program prints of a fit (docs/SCOPE.md 11.3). Definitions only.
use Rattle.std.specs.Prelude.{ℕ, ◌*◌, Bool, cond, List, ◌++◌, Float}
use Rattle.limits.specs.Limits.{slot_bytes}
use Rattle.sequence.specs.Sequence.{at, part, concat_to}
use Rattle.harmonic.specs.Table.{ascii}
use Rattle.terms.specs.Names.{name_of, read_term, term_or_blank}
use Rattle.solver.specs.declared.FitResult.{FitResult}
use Rattle.listing.specs.Text.{spaced, flag, bits_of, newline}

-- free, rank, iterations, converged, sweeps, settled
unfoldable pub counts_line : FitResult → List ℕ
counts_line r =
    ascii "fit" ++ spaced r.rank_info.n_free ++ spaced r.rank_info.rank ++ spaced r.iter_report.iterations
    ++ flag r.iter_report.converged ++ spaced r.sweeps ++ flag r.settled ++ newline

-- two floats behind a name
unfoldable pub floats : Float → Float → List ℕ
floats x y = ascii " " ++ bits_of x ++ ascii " " ++ bits_of y

-- a space and the word of a pier flag: the term turns with the pier, or is the same on both sides
abbrev pub pier_word : Bool → List ℕ
pier_word sensitive = cond sensitive (ascii " pier") (ascii " both")

-- the name that the term of a slot is stored by, its coefficient, its sigma and the word of its flag
unfoldable pub term_line : List ℕ → Float → Float → List ℕ
term_line slot coefficient sigma =
    let t = term_or_blank (read_term slot) in
    name_of t.name ++ floats coefficient sigma ++ pier_word t.pier_sensitive ++ newline

unfoldable pub term_lines : List ℕ → ℕ → List Float → List Float → List ℕ
term_lines names m coefficients sigma = concat_to m (λ j. term_line (part names (slot_bytes * j) slot_bytes) (at coefficients j) (at sigma j))

unfoldable pub sky_line : FitResult → List ℕ
sky_line r = ascii "sky" ++ floats r.sky_rms r.popn_sd ++ newline

unfoldable pub fit_text : List ℕ → ℕ → List Float → List Float → FitResult → List ℕ
fit_text names m coefficients sigma r = counts_line r ++ term_lines names m coefficients sigma ++ sky_line r

unfoldable pub refusal_text : ℕ → List ℕ
refusal_text number = ascii "no" ++ spaced number ++ newline
