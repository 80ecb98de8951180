-- `design::SightInput::product` meets its contract. Assumes nothing.
use mathlib.Core.Bool.{false}
use Rattle.std.proofs.Common.{rules}
use Rattle.design.specs.Design.{product}
use Rattle.design.proofs.run.SightInput.product.Goals as goal

pub returns : goal.returns
unfolding product
returns c = c.add_columns.ensures (λ x. false) (search rules)
