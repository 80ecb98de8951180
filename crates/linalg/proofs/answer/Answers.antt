-- `linalg::answer` meets its contract. Assumes nothing.
use Rattle.linalg.specs.Linalg.{Decomposed}
use Rattle.linalg.proofs.Laws.{answers}
use Rattle.linalg.proofs.answer.Goals as goal

pub returns : goal.returns
returns c =
    let a = c.args in
    let d : Decomposed = record { norms = a.d.norms; w = a.w.now; values = a.d.values; made = a.d.made; settled = a.d.settled } in
    answers a.h a.rows a.m _ a.fit_tol d a.order _ _ _ _ _
    c.threshold-t.ensures c.invert-rank.ensures c.project-z.ensures c.solution.ensures c.covariance.ensures
