-- `harmonic::parse_components` meets its contract. Assumes nothing.
use native.Mathlib.Omega.{arith}
use mathlib.Core.Path.{◌≡◌, ◌∙◌, sym, ap}
use Rattle.std.proofs.Common.{rules, length, ◌<◌}
use Rattle.std.specs.Prelude.{option_map}
use Rattle.std.proofs.lemmas.Bool.Decides.{nat_tests}
use lib.ListN.{length-take, length-drop}
use Rattle.harmonic.specs.Harmonic.{array_of}
use Rattle.harmonic.proofs.Reading.{broken, fits, next, done}
use Rattle.harmonic.proofs.parse_components.Goals as goal

pub returns-in_err-c : goal.returns-in_err-c
returns-in_err-c c =
    let l = c.loop-rest in
    let more : 0 < length l.rest.now = grind (arith, nat_tests) in
    let ill = broken _ c.requires _ _ _ l.invariant more (sym c.first_component.ensures ∙ c.in_err-c.was) in
    c.from_residual.ensures ∙ sym (ap (option_map array_of) ill)

pub slice_bounds-rest-count : goal.slice_bounds-rest-count
slice_bounds-rest-count c =
    let l = c.loop-rest in
    let more : 0 < length l.rest.now = grind (arith, nat_tests) in
    (fits _ c.requires _ _ _ l.invariant more _ _ (sym c.first_component.ensures ∙ c.in_ok-c.was)).2

pub slice_bounds-rest-start : goal.slice_bounds-rest-start
slice_bounds-rest-start c =
    let l = c.loop-rest in
    let more : 0 < length l.rest.now = grind (arith, nat_tests) in
    let f = fits _ c.requires _ _ _ l.invariant more _ _ (sym c.first_component.ensures ∙ c.in_ok-c.was) in
    search rules

pub loop-rest-smaller : goal.loop-rest-smaller
loop-rest-smaller c =
    let l = c.loop-rest in
    let more : 0 < length l.rest.now = grind (arith, nat_tests) in
    let f = fits _ c.requires _ _ _ l.invariant more _ _ (sym c.first_component.ensures ∙ c.in_ok-c.was) in
    simp (length-take, length-drop) (omega (arith, f.1, f.2))

pub loop-rest-preserved : goal.loop-rest-preserved
loop-rest-preserved c =
    let l = c.loop-rest in
    let more : 0 < length l.rest.now = grind (arith, nat_tests) in
    next _ c.requires _ _ _ l.invariant more _ _ (sym c.first_component.ensures ∙ c.in_ok-c.was)

pub returns : goal.returns
returns c =
    let l = c.loop-rest in
    let more : length l.rest.now ≡ 0 = grind (arith, nat_tests) in
    done _ c.requires _ _ _ l.invariant more
