-- The cases of docs/SCOPE.md 12.1 hold: every definition on the way is computed. Assumes nothing.
use mathlib.Core.Path.{refl}
use mathlib.Core.List.{zip_with}
use lib.Ieee.{neg, add, sub, mul, div, lt, le, eq, of_bits, of_int}
use Rattle.float.specs.Float.{is_finite, abs}
use Rattle.sequence.specs.Sequence.{table, concat_to, filled, each, sum_to, sum_but, dot}
use Rattle.sqrt.specs.Sqrt as Root
use Rattle.observation.specs.Sheet.{point_of}
use Rattle.harmonic.specs.Harmonic.{components, parse_harmonic}
use Rattle.terms.specs.Names.{name_of, well_formed, digits_from, unsigned, read_harmonic, by_known, read_term}
use Rattle.terms.specs.Slots.{all_ok}
use Rattle.terms.specs.Jacobian.{jacobian_of}
use Rattle.jacobi.specs.Jacobi.{sweeps, sweep, row, pair, turn, zeta_of, tan_of, cos_of}
use Rattle.column.specs.Column.{norms, norm, scale_of, scaled_column, unit_column, columns, diagonal, diagonals, extended}
use Rattle.order.specs.Order.{order, best, raised}
use Rattle.linalg.specs.Linalg.{solved, answered, decomposed, inverses, inverse, rank_to, projected}
use Rattle.linalg.specs.Linalg.{x_scaled, solution, scaled_variance, covariance, leverage_of, threshold, solved_damped}
use Rattle.design.specs.Design as Design
use Rattle.design.specs.Design.{kept, collect_indices, pairs, column, sky_column, differences}
use Rattle.design.specs.Design.{sky_rows, sky_differences, subtract_all, product, predicted, scattered, weighing, stacked}
use Rattle.validate.specs.Questions.{asked_of, in_limits, counts, scratch_needed, enough_room, finite_settings, finite_input, finite_options, codes_known}
use Rattle.stats.specs.Stats.{sum_sq_sky, sky_from, variance, clamped, studentized_row, diagnostic}
use Rattle.best.specs.ChiSquare.{chi}
use Rattle.best.specs.Trials.{after}
use Rattle.outcome.specs.Outcome.{finished, sigma_of, diagnostic_of}
use Rattle.single_step.specs.SingleStep.{fit_outcome, fitted_run, step, to_fit, change, new_coefficients, free_residuals, actual_residuals}
use Rattle.lm_system.specs.System.{residuals_under, sky_residuals, chi2_at, huber_from, lm_step, moved}
use Rattle.iterated.specs.Iterated as Iterated
use Rattle.iterated.specs.Iterated.{iterated_outcome, lm_loop, last_set}
use Rattle.cases.specs.Cases.{Starred}

pub starred : Starred
unfolding name_of well_formed digits_from unsigned components parse_harmonic read_harmonic by_known read_term jacobian_of point_of is_finite abs neg
    add sub mul div lt le eq of_bits of_int Root.sqrt table filled each sum_to sum_but dot zip_with fit_outcome asked_of in_limits counts scratch_needed
    enough_room finite_input finite_options codes_known all_ok finished step to_fit new_coefficients free_residuals sigma_of diagnostic_of concat_to
    Design.rows pairs column sky_column differences sky_differences subtract_all product stacked sum_sq_sky variance clamped studentized_row
    diagnostic solved answered decomposed norms norm scale_of scaled_column unit_column columns diagonal diagonals extended inverses inverse rank_to
    projected x_scaled solution scaled_variance covariance leverage_of threshold order best raised sweeps sweep row pair turn zeta_of tan_of cos_of
    iterated_outcome lm_loop after last_set Iterated.free_residuals chi sky_residuals huber_from lm_step moved solved_damped predicted weighing
    sky_rows kept collect_indices scattered finite_settings sky_from fitted_run actual_residuals change Iterated.fitted_run residuals_under chi2_at
starred = refl
