-- `outcome::free_residuals` meets its contract. Assumes nothing.
use Rattle.outcome.proofs.Laws.{free_taken}
use Rattle.outcome.proofs.free_residuals.Goals as goal

pub returns : goal.returns
returns c =
    let long = rw (← c.sights.view_is) at c.requires.2 in
    let p = rw (← c.sights.view_is) at c.free_product.ensures in
    rw (← c.sights.view_is) (free_taken _ _ c.args.v.now _ _ _ long p.filled p.only c.subtract_from.ensures)
