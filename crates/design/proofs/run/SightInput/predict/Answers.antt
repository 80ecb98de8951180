-- `design::SightInput::predict` meets its contract. Assumes nothing.
use lib.Ieee.{eq}
use Rattle.std.proofs.Common.{rules}
use Rattle.float.specs.Float.{#0}
use Rattle.design.specs.Design.{predicted}
use Rattle.design.proofs.run.SightInput.predict.Goals as goal

pub returns : goal.returns
unfolding predicted
returns c = c.add_columns.ensures (λ x. eq x #0) (search rules)
