-- The example of a file and its listing (docs/SCOPE.md 11.3.5), worked out from the definitions. Assumes nothing.
use Prim.Native.Nat.{ℕ}
use mathlib.Core.Path.{◌≡◌, refl}
use mathlib.Core.List.{List, [], ◌∷◌, ◌++◌, zip_with}
use lib.ListN.{replicate}
use lib.Ieee.{of_bits, of_int, neg, add, sub, mul, div, lt, le, eq, to_bits}
use Rattle.float.specs.Float.{abs, is_finite}
use Rattle.sequence.specs.Sequence.{table, concat_to, filled, each, sum_to, sum_but, dot}
use Rattle.sqrt.specs.Sqrt as Root
use Rattle.observation.specs.Sheet.{point_of}
use Rattle.harmonic.specs.Table.{ascii}
use Rattle.harmonic.specs.Harmonic.{components, parse_harmonic}
use Rattle.terms.specs.Names.{padded, name_of, well_formed, digits_from, unsigned, read_harmonic, by_known, read_term}
use Rattle.terms.specs.Slots.{all_ok}
use Rattle.terms.specs.Jacobian.{jacobian_of}
use Rattle.jacobi.specs.Jacobi.{zeta_of, tan_of, cos_of, turn, pair, row, sweep, sweeps}
use Rattle.column.specs.Column.{norm, norms, scale_of, scaled_column, unit_column, columns, diagonal, diagonals, extended}
use Rattle.order.specs.Order.{best, order}
use Rattle.linalg.specs.Linalg.{decomposed, threshold, inverse, inverses, rank_to, projected, x_scaled, solution, scaled_variance, covariance, leverage_of, answered, solved}
use Rattle.design.specs.Design as Design
use Rattle.design.specs.Design.{kept, collect_indices, pairs, column, sky_column, differences, sky_rows, sky_differences, subtract_all, product, scattered, stacked}
use Rattle.validate.specs.Questions.{in_limits, counts, scratch_needed, enough_room, finite_settings, finite_input, finite_options, codes_known, asked_of}
use Rattle.stats.specs.Stats.{sum_sq_sky, sky_from, variance, clamped, studentized_row, diagnostic}
use Rattle.single_step.specs.SingleStep as Step
use Rattle.outcome.specs.Outcome as Out
use Rattle.listing.specs.Text as Text
use Rattle.listing.specs.Listing as Listing
use Rattle.pmf.specs.File as File
use Rattle.pmf.specs.Pmf as Pmf

-- doubles in their bytes
abbrev #0 : List ℕ
#0 = replicate 8 0

abbrev #1 : List ℕ
#1 = replicate 6 0 ++ (0xf0 ∷ 0x3f ∷ [])

abbrev #10 : List ℕ
#10 = replicate 6 0 ++ (0x24 ∷ 0x40 ∷ [])

abbrev #-10 : List ℕ
#-10 = replicate 6 0 ++ (0x24 ∷ 0xc0 ∷ [])

abbrev #1e-6 : List ℕ
#1e-6 = 0x8d ∷ 0xed ∷ 0xb5 ∷ 0xa0 ∷ 0xf7 ∷ 0xc6 ∷ 0xb0 ∷ 0x3e ∷ []

abbrev #1e-3 : List ℕ
#1e-3 = 0xfc ∷ 0xa9 ∷ 0xf1 ∷ 0xd2 ∷ 0x4d ∷ 0x62 ∷ 0x50 ∷ 0x3f ∷ []

abbrev #1·345 : List ℕ
#1·345 = 0x85 ∷ 0xeb ∷ 0x51 ∷ 0xb8 ∷ 0x1e ∷ 0x85 ∷ 0xf5 ∷ 0x3f ∷ []

abbrev twice : List ℕ → List ℕ
twice l = l ++ l

-- all sines and tan 0, all cosines 1
abbrev sheet : List ℕ
sheet = let pair = #0 ++ #1 in let eight = twice (twice (twice pair)) in twice (eight ++ pair) ++ #0

-- mode 0, one term ID free at 0, one East star, differences 0 and -10, fit_tol 0, default options
abbrev file : List ℕ
file =
    ascii "PMF" ++ (1 ∷ 0 ∷ 1 ∷ 0 ∷ 1 ∷ 0 ∷ [])
    ++ #0 ++ #1 ++ #0 ++ #1e-6 ++ #1e-3 ++ #10 ++ #10 ++ #1·345 ++ (50 ∷ 0 ∷ [])
    ++ padded (ascii "ID") ++ (0 ∷ []) ++ #0
    ++ (1 ∷ []) ++ #0 ++ #-10 ++ sheet

pub example : Pmf.listed file ≡ ascii "fit 1 1 1 yes 1 yes" ++ Text.newline ++ ascii "ID 4024000000000000 0000000000000000 pier" ++ Text.newline ++ ascii "sky 0000000000000000 0000000000000000" ++ Text.newline
unfolding name_of well_formed digits_from unsigned components parse_harmonic read_harmonic by_known read_term jacobian_of point_of is_finite abs neg add sub mul div lt le
    eq of_bits of_int Root.sqrt table filled each sum_to sum_but dot zip_with asked_of in_limits counts scratch_needed enough_room finite_input finite_options codes_known all_ok
    Step.step Step.to_fit Step.change Step.new_coefficients Step.free_residuals Out.sigma_of Out.diagnostic_of Design.rows pairs column sky_column
    differences sky_differences subtract_all product stacked sum_sq_sky variance clamped studentized_row diagnostic solved answered decomposed norms norm
    scale_of scaled_column unit_column columns diagonal diagonals extended inverses inverse rank_to projected x_scaled solution scaled_variance covariance leverage_of
    threshold order best sweeps sweep row pair turn zeta_of tan_of cos_of to_bits Text.digit Text.last_digits Text.decimal Text.hexadecimal Text.bits_of concat_to
    Listing.counts_line Listing.floats Listing.term_line Listing.term_lines Listing.sky_line Listing.fit_text Listing.refusal_text File.double File.input_of
    File.options_of Pmf.header_of Pmf.room Pmf.fit_of Pmf.outcome_of Pmf.listed Out.finished kept collect_indices sky_rows scattered finite_settings sky_from
    Step.fitted_run Step.actual_residuals
example = refl
