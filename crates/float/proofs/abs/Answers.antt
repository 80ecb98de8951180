-- `float::abs` meets its contract. Assumes nothing.
use Rattle.std.proofs.Common.{◌≡◌, Float, refl, ◌∙◌, false}
use Rattle.std.specs.Float.{nan, inf, fin, float_with_sign}
use Rattle.float.specs.Float.{abs}
use Rattle.float.proofs.abs.Goals as goal

cleared : (x : Float) → float_with_sign false x ≡ abs x
unfolding float_with_sign abs
cleared nan = refl
cleared (inf s) = refl
cleared (fin s m e) = refl

pub returns : goal.returns
returns c = c.abs.ensures.value ∙ cleared _
