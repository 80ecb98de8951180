-- `observation::number_at` meets its contract. Assumes nothing.
use native.Mathlib.Omega.{arith}
use Rattle.std.proofs.lemmas.Grind.{common_steps}
use Rattle.std.proofs.lemmas.Option.{gets}
use Rattle.float.proofs.Zero.{nan_is}
use Rattle.observation.proofs.number_at.Goals as goal

pub returns : goal.returns
returns c = let nan = nan_is in grind (arith, common_steps, gets)
