-- `linalg::decompose` meets its contract. Assumes nothing.
use Rattle.linalg.proofs.Laws.{decomposes}
use Rattle.linalg.proofs.decompose.Goals as goal

pub returns : goal.returns
returns c =
    decomposes _ _ _ c.args.w.now _ _ _ _ _ _ _ _ c.norms-norms.ensures c.change_columns.ensures c.diagonals.ensures
    c.factorise-made.ensures c.norms-values.ensures c.change_columns-2.ensures
