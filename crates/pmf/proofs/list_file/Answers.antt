-- `pmf::list_file` meets its contract. Assumes nothing.
use Prim.Native.Nat.{◌+◌, ◌*◌, ◌-◌}
use native.Mathlib.Nat.{add-sub_cancel_left}
use mathlib.Core.Path.{◌≡◌}
use lib.ListN.{take, drop}
use Rattle.limits.specs.Limits.{slot_bytes}
use Rattle.sequence.specs.Sequence.{part}
use Rattle.pmf.specs.File.{names_place, flags_place}
use Rattle.pmf.proofs.Listing.{input_is}
use Rattle.pmf.proofs.list_file.Goals as goal

pub returns : goal.returns
returns c =
    let s = c.args.s.now in
    let h = c.args.header in
    let m = h.terms in
    let names : take (flags_place m - names_place) (drop names_place s) ≡ part s names_place (slot_bytes * m) =
    rw (add-sub_cancel_left names_place (slot_bytes * m)) in
    let fixed : take (flags_place m + m - flags_place m) (drop (flags_place m) s) ≡ part s (flags_place m) m = rw (add-sub_cancel_left (flags_place m) m) in
    let input = input_is s h c.requires.1 names fixed c.coefficients-coefficients.ensures c.differences-dh.ensures
    c.differences-dd.ensures c.piers-pier.ensures c.sheets-sheets.ensures c.settings.ensures in
    rw (← input, ← c.options.ensures) c.list_input.ensures
