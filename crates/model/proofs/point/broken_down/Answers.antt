use native.Mathlib.Omega.{arith}
use mathlib.Core.Path.{◌≡◌, sym, ap, ◌∙◌}
use borrow.Author.Rules.{rules}
use lib.ListN.{length}
use Rattle.std.specs.Prelude.{ℕ, Ok, Err}
use Rattle.terms.specs.Names.{read_term, term_or_blank}
use Rattle.terms.specs.Slots.{slot, names_read}
use Rattle.terms.proofs.First.{ok_none, ok_step, ok_stop}
use Rattle.model.proofs.Laws.{down, down_none, down_more}
use Rattle.model.proofs.point.broken_down.Goals as goal

pub loop-i-init : goal.loop-i-init
loop-i-init c = (ok_none _, c.empty-parts.ensures ∙ down_none _ _ _ _ _ _)

pub loop-i-preserved : goal.loop-i-preserved
loop-i-preserved c =
    let l = c.loop-i in
    let read = sym c.read_at.ensures ∙ c.in_ok-term.was in (
      ok_step (λ (k : ℕ). read_term (slot c.args.terms.now.names.now k)) l.i c.in_ok-term.term l.invariant.0 read,
      down_more _ _ _ _ _ _ l.i l.parts _ _ (omega (arith, c.requires.1)) l.invariant.1 (sym (ap term_or_blank read)) c.contribution-part.ensures,
    )

pub returns-in_err-term : goal.returns-in_err-term
returns-in_err-term c =
    let l = c.loop-i in
    let t = c.args.terms.now in
    let why = c.in_err-term.field-0.0 in
    let e : c.from_residual.result ≡ Err why = search rules in
    rw (ok_stop (λ (k : ℕ). read_term (slot t.names.now k)) l.i (length t.coefficients.now) why (omega arith) l.invariant.0
    (sym c.read_at.ensures ∙ c.in_err-term.was))
    e

pub returns : goal.returns
returns c =
    let t = c.args.terms.now in
    let all : c.loop-i.i ≡ length t.coefficients.now = omega arith in
    rw (ap (names_read t.names.now) (sym all) ∙ c.loop-i.invariant.0)
    (ap Ok (c.loop-i.invariant.1 ∙ ap (down t.names.now t.coefficients.now _ _ _ _) all))
