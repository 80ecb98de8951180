-- `model::PointingModel::set_coefficients` meets its contract. Assumes nothing.
use Prim.Native.Nat.{◌≤◌, ◌-◌}
use native.Mathlib.Omega.{arith}
use mathlib.Core.Path.{◌≡◌, refl, sym, ◌∙◌, ap}
use borrow.Author.Rules.{rules}
use borrow.Author.Tests.{eqb-true}
use lib.ListN.{length}
use lib.Seq.{length-take-le}
use Rattle.std.specs.Prelude.{Ok}
use Rattle.model.specs.Model.{setting, set_coefficients}
use Rattle.model.proofs.Laws.{passed, set_is}
use Rattle.model.proofs.PointingModel.set_coefficients.Goals as goal

pub returns-in-Err : goal.returns-in-Err
unfolding setting set_coefficients
returns-in-Err c =
    let asked = rw c.all_finite-finite.ensures at c.ask.ensures in
    rw (← asked, c.in-Err.is) refl

pub slice_bounds-copy_from_slice-end : goal.slice_bounds-copy_from_slice-end
slice_bounds-copy_from_slice-end c =
    let m = c.args.self in
    let few : m.count ≤ 32 = (passed _ _ _ _ _ _ (sym c.ask.ensures ∙ c.in-Ok.is)).few in
    let long : length m.coefficients ≡ 32 = search rules in
    omega arith

pub copy_from_slice-requires : goal.copy_from_slice-requires
copy_from_slice-requires c =
    let m = c.args.self in
    let p = passed _ _ _ _ _ _ (sym c.ask.ensures ∙ c.in-Ok.is) in
    let long : length m.coefficients ≡ 32 = search rules in
    let one_each = eqb-true (length c.args.coefficients.now) m.count p.rest_counted in
    length-take-le (m.count - 0) m.coefficients (omega (arith, p.few)) ∙ omega arith

pub flagged-requires : goal.flagged-requires
flagged-requires c = (passed _ _ _ _ _ _ (sym c.ask.ensures ∙ c.in-Ok.is)).few

pub returns : goal.returns
unfolding setting set_coefficients
returns c =
    let asked = rw c.all_finite-finite.ensures at c.ask.ensures in
    let one_each = (passed _ _ _ _ _ _ (sym c.ask.ensures ∙ c.in-Ok.is)).rest_counted in
    rw (← asked, c.in-Ok.is) (ap Ok (c.flagged.ensures ∙ set_is c.args.self _ _ c.copy_from_slice.ensures.after (eqb-true _ _ one_each)))
