-- `pmf::list_fit` meets its contract. Assumes nothing.
use Rattle.pmf.proofs.Listing.{room_ready, fit_text_lem}
use Rattle.pmf.proofs.list_fit.Goals as goal

pub fit-r-requires : goal.fit-r-requires
fit-r-requires c =
    room_ready c.zeros-out.ensures c.zeros-change.ensures c.zeros-sigma.ensures c.zeros-diagnostics.ensures c.zeros-scratch.ensures _ c.requires.2

pub returns : goal.returns
returns c =
    let a = c.args in
    rw (
      fit_text_lem c.zeros-out.ensures c.zeros-change.ensures c.zeros-sigma.ensures c.zeros-diagnostics.ensures c.zeros-scratch.ensures
          a.mode a.input.now a.options _ c.fit-r.ensures,
      ← c.input.view_is,
    ) c.put_fit.ensures
