-- `terms::read_term` meets its contract. Assumes nothing.
use native.Mathlib.Omega.{arith}
use mathlib.Core.Path.{◌∙◌, sym}
use lib.Seq.{length-take-le}
use Rattle.terms.proofs.Slots.{end_within, capitals_long, clean, created}
use Rattle.terms.proofs.read_term.Goals as goal

pub slice_bounds-full-end : goal.slice_bounds-full-end
slice_bounds-full-end c = omega (arith, end_within c.args.slot.now, capitals_long c.args.slot.now _ c.capitals-full.ensures)

pub slice_bounds-create_term-end : goal.slice_bounds-create_term-end
slice_bounds-create_term-end c =
    sym (length-take-le _ _ (omega (arith, end_within c.args.slot.now, capitals_long c.args.slot.now _ c.capitals-full.ensures)))

pub create_term-requires : goal.create_term-requires
create_term-requires c =
    let s = c.args.slot.now in
    let long = length-take-le c.name_end-n.result c.capitals-full.result (omega (arith, end_within s, capitals_long s _ c.capitals-full.ensures)) in (
      omega (arith, long, end_within s, c.if-slot-ne-SLOT.false),
      clean s _ _ c.name_end-n.ensures c.capitals-full.ensures c.if-slot-ne-SLOT.false (sym c.if-not-is_well_formed.ensures),
    )

pub returns : goal.returns
returns c = c.create_term.ensures ∙ created c.args.slot.now _ _ c.name_end-n.ensures c.capitals-full.ensures c.if-slot-ne-SLOT.false (sym c.if-not-is_well_formed.ensures)
