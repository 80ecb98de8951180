-- `model::PointingModel::predict_breakdown` meets its contract. Assumes nothing.
use borrow.Author.Rules.{rules}
use Rattle.model.specs.Correction.{breakdown_at}
use Rattle.model.proofs.Laws.{many}
use Rattle.model.proofs.PointingModel.predict_breakdown.Goals as goal

pub returns-in_err-names : goal.returns-in_err-names
unfolding breakdown_at
returns-in_err-names c = rw (many _ _ _ _ _ _ c.in_err-names.ensures.err.0) (search rules)
