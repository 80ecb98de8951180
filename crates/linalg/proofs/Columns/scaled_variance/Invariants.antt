-- `linalg::Columns::scaled_variance` meets its contract. Assumes nothing.
use Rattle.float.specs.Float.{◌⊗◌}
use Rattle.linalg.proofs.Columns.scaled_variance.Given as goal

abbrev pub ghost-squares : goal.ghost-squares
ghost-squares a = λ v s. v ⊗ s
