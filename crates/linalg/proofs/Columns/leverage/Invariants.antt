-- `linalg::Columns::leverage` meets its contract. Assumes nothing.
use Rattle.linalg.proofs.Columns.leverage.Given as goal

abbrev pub ghost-squares : goal.ghost-squares
ghost-squares a = λ u s. u
