-- `model::point::broken_down` meets its contract. The invariant: the first i names are read, and the parts are their contributions. Assumes nothing.
use mathlib.Core.Path.{◌≡◌}
use Rattle.std.specs.Prelude.{Ok}
use Rattle.observation.specs.Observation.{sign_of, side_of}
use Rattle.terms.specs.Slots.{names_read}
use Rattle.model.specs.Correction.{broken_down}
use Rattle.model.proofs.point.broken_down.Given as goal

abbrev pub invariant-loop-i : goal.invariant-loop-i
invariant-loop-i l =
    (names_read l.terms.names.now l.i ≡ Ok tt)
    × (l.parts ≡ broken_down l.terms.names.now l.terms.coefficients.now l.i l.place.sheet.now l.place.sin_lat l.place.cos_lat (sign_of (side_of l.place.pier)))
