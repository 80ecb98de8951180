-- `terms::names::is_well_formed` meets its contract. Assumes nothing.
use native.Mathlib.Omega.{arith}
use Rattle.std.proofs.Common.{rules, ◌≡◌, ◌∙◌, sym, ◌≤◌, ◌-◌, length}
use Rattle.std.specs.Prelude.{eqb}
use Rattle.std.specs.List.{list_all}
use Rattle.std.proofs.lemmas.Iterator.{YieldsList-from_slice}
use Rattle.std.proofs.lemmas.Iterator.Search.{all_from_yields_List}
use Rattle.terms.proofs.Slots.{end_within, ascii_every, some_byte, empty, no_ascii, all_well}
use lib.ListN.{take, drop}
use lib.Seq.{length-take-le}
use Rattle.terms.proofs.names.is_well_formed.Goals as goal
use Rattle.terms.proofs.names.is_well_formed.Goals.{then-some_byte, else-some_byte}

pub slice_bounds-is_ascii-end : goal.slice_bounds-is_ascii-end
slice_bounds-is_ascii-end c = sym (length-take-le _ _ (omega (arith, end_within c.args.slot.now)))

pub slice_bounds-iter-count : goal.slice_bounds-iter-count
slice_bounds-iter-count c = omega (arith, end_within c.args.slot.now)

pub slice_bounds-iter-start : goal.slice_bounds-iter-start
slice_bounds-iter-start c =
    let h : c.args.n ≤ length c.args.slot.now = omega (arith, end_within c.args.slot.now) in
    search rules

pub returns-then-is_ascii : goal.returns-then-is_ascii
returns-then-is_ascii c =
    let s = c.args.slot.now in
    let n = c.args.n in
    let zeros : c.all.result ≡ list_all (λ b. eqb b 0) (take (length s - n) (drop n s)) =
    all_from_yields_List (λ b. eqb b 0) _ _ _ c.all.ensures.ran (YieldsList-from_slice (take (length s - n) (drop n s)) (search rules)) (λ x b q k. search rules) in
    elim c.if-some_byte.branch [
      | then-some_byte w ↦ all_well s n c.requires _ _ w.if-some_byte.true (sym w.value-is ∙ c.if-is_ascii.true) (ascii_every _ _ w.is_ascii.ensures.cases) zeros
      | else-some_byte w ↦ absurd (some_byte s n c.requires _ w.value-is w.if-some_byte.false c.if-is_ascii.true)
    ]

pub returns-else-is_ascii : goal.returns-else-is_ascii
returns-else-is_ascii c =
    let s = c.args.slot.now in
    let n = c.args.n in
    elim c.if-some_byte.branch [
      | then-some_byte w ↦ no_ascii s n c.requires _ c.if-is_ascii.false (w.value-is ∙ ascii_every _ _ w.is_ascii.ensures.cases)
      | else-some_byte w ↦ empty s n c.requires _ w.value-is w.if-some_byte.false
    ]
