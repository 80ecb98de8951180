-- `model::point::corrected` meets its contract. The invariant: the first i names are read, and the sums of their contributions. Assumes nothing.
use mathlib.Core.Path.{◌≡◌}
use Rattle.std.specs.Prelude.{Ok}
use Rattle.observation.specs.Observation.{pair_of, sign_of, side_of}
use Rattle.terms.specs.Slots.{names_read}
use Rattle.model.specs.Correction.{corrected}
use Rattle.model.proofs.point.corrected.Given as goal

abbrev pub invariant-loop-i : goal.invariant-loop-i
invariant-loop-i l =
    (names_read l.terms.names.now l.i ≡ Ok tt)
    × (pair_of l.dh l.dd ≡ corrected l.terms.names.now l.terms.coefficients.now l.i l.place.sheet.now l.place.sin_lat l.place.cos_lat (sign_of (side_of l.place.pier)))
