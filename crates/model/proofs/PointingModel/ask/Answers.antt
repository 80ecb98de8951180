-- `model::PointingModel::ask` meets its contract. Assumes nothing.
use borrow.Author.Rules.{rules}
use Rattle.model.proofs.Laws.{many}
use Rattle.model.proofs.PointingModel.ask.Goals as goal

pub returns-in_err-terms : goal.returns-in_err-terms
returns-in_err-terms c = rw (many _ _ _ _ _ _ c.in_err-terms.ensures.err.0) (search rules)
