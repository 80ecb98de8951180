-- `model::PointingModel::add_term` meets its contract. Assumes nothing.
use Prim.Native.Nat.{◌≤◌}
use native.Mathlib.Omega.{arith}
use mathlib.Core.Path.{◌≡◌, refl, sym, ◌∙◌, ap}
use borrow.Author.Rules.{rules}
use borrow.Author.Tests.{lt-ltb, le-ltb}
use lib.ListN.{length}
use Rattle.std.specs.Prelude.{Ok}
use Rattle.model.specs.Model.{adding, add_term}
use Rattle.model.proofs.Laws.{passed, added_is}
use Rattle.model.proofs.PointingModel.add_term.Goals as goal

pub returns-in-Err : goal.returns-in-Err
unfolding adding add_term
returns-in-Err c = rw (← c.ask.ensures, c.in-Err.is) refl

pub returns-in-Err-read_term : goal.returns-in-Err-read_term
unfolding adding add_term
returns-in-Err-read_term c = rw (← c.ask.ensures, c.in-Ok.is, ← c.read_term.ensures, c.in-Err-read_term.is) refl

pub has_name-requires : goal.has_name-requires
has_name-requires c =
    let m = c.args.self in
    let few : m.count ≤ 32 = (passed _ _ _ _ _ _ (sym c.ask.ensures ∙ c.in-Ok.is)).few in
    let names : length m.names ≡ 512 = search rules in
    omega arith

pub flagged-requires : goal.flagged-requires
flagged-requires c = (passed _ _ _ _ _ _ (sym c.ask.ensures ∙ c.in-Ok.is)).few

pub returns-then-has_name : goal.returns-then-has_name
unfolding adding add_term
returns-then-has_name c =
    rw (← c.ask.ensures, c.in-Ok.is, ← c.read_term.ensures, c.in-Ok-read_term.is, ← c.has_name.ensures, c.if-has_name.true) (ap Ok c.flagged.ensures)

pub returns-then-self-ge-MAX_TERMS : goal.returns-then-self-ge-MAX_TERMS
unfolding adding add_term
returns-then-self-ge-MAX_TERMS c =
    rw (
      ← c.ask.ensures,
      c.in-Ok.is,
      ← c.read_term.ensures,
      c.in-Ok-read_term.is,
      ← c.has_name.ensures,
      c.if-has_name.false,
      le-ltb _ 32 c.if-self-ge-MAX_TERMS.true,
    ) refl

pub returns : goal.returns
unfolding adding add_term
returns c =
    let m = c.args.self in
    let names : length m.names ≡ 512 = search rules in
    let name = c.in-Ok-read_term.term.name in
    let sixteen : length name ≡ 16 = search rules in
    rw (
      ← c.ask.ensures,
      c.in-Ok.is,
      ← c.read_term.ensures,
      c.in-Ok-read_term.is,
      ← c.has_name.ensures,
      c.if-has_name.false,
      lt-ltb _ 32 c.if-self-ge-MAX_TERMS.false,
    )
    (ap Ok (c.flagged-2.ensures ∙ added_is m _ name c.copy_from_slice.ensures.after sixteen names c.if-self-ge-MAX_TERMS.false))
