-- `float::is_finite` meets its contract. Assumes nothing.
use Rattle.std.proofs.Common.{◌≡◌, Float, refl, ◌∙◌}
use Rattle.std.specs.Float.{nan, inf, fin, float_is_finite}
use Rattle.float.specs.Float.{is_finite}
use Rattle.float.proofs.is_finite.Goals as goal

tested : (x : Float) → float_is_finite x ≡ is_finite x
unfolding float_is_finite is_finite
tested nan = refl
tested (inf s) = refl
tested (fin s m e) = refl

pub returns : goal.returns
returns c = c.is_finite.ensures.value ∙ tested _
