-- `design::SightInput::fill_sky_column` meets its contract. Assumes nothing.
use mathlib.Core.Path.{sym, ap, ◌∙◌}
use mathlib.Core.List.{[]}
use Rattle.design.specs.Design.{sky_rows, sights_at}
use Rattle.design.proofs.Stars.{sky_column_is, sky_rows-same}
use Rattle.design.proofs.run.SightInput.fill_sky_column.Goals as goal

pub returns : goal.returns
returns c =
    let i = c.self.inside in
    let filled = rw (← c.self.view_is) at c.fill_column.ensures in
    rw (← c.self.view_is)
    (c.scale_ha_rows.ensures
    ∙ ap (sky_rows (sights_at [] i.sheets.now i.used.now)) filled
    ∙ sym (sky_rows-same [] [] i.pier.now i.sheets.now i.used.now _)
    ∙ sky_column_is [] [] i.pier.now i.sheets.now i.used.now i.settings c.args.term)
