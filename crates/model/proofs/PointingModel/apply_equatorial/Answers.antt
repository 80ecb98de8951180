-- `model::PointingModel::apply_equatorial` meets its contract. Assumes nothing.
use borrow.Author.Rules.{rules}
use Rattle.model.specs.Correction.{correction_at}
use Rattle.model.proofs.Laws.{many}
use Rattle.model.proofs.PointingModel.apply_equatorial.Goals as goal

pub returns-in_err-terms : goal.returns-in_err-terms
unfolding correction_at
returns-in_err-terms c = rw (many _ _ _ _ _ _ c.in_err-terms.ensures.err.0) (search rules)
