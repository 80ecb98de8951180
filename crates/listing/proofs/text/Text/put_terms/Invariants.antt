-- `Text::put_terms` meets its contract. The invariant: the lines of the first j terms are written. Assumes nothing.
use Rattle.std.proofs.Common.{ℕ, ◌+◌, ◌*◌, ◌≤◌, ◌≡◌, ◌++◌, List, Float, length}
use Rattle.sequence.specs.Sequence.{at, part, concat_to}
use Rattle.listing.specs.Listing.{term_line}
use Rattle.listing.proofs.text.Text.put_terms.Given as goal

abbrev pub line_of : List ℕ → List Float → List Float → ℕ → List ℕ
line_of names coefficients sigma j = term_line (part names (16 * j) 16) (at coefficients j) (at sigma j)

abbrev pub invariant-loop-j : goal.invariant-loop-j
invariant-loop-j l =
    (l.j ≤ l.m) × (length l.self ≤ length l.initial.self + 56 * l.j)
    × (l.self ≡ l.initial.self ++ concat_to l.j (line_of l.names l.coefficients l.sigma))
