use mathlib.Core.Path.{◌≡◌, ◌∙◌, sym, ap}
use lib.ListN.{length, length-append}
use Rattle.std.proofs.Common.{rules, ℕ}
use Rattle.std.specs.Prelude.{Err}
use Rattle.terms.specs.Names.{read_term}
use Rattle.terms.specs.Slots.{slot}
use Rattle.terms.proofs.Chunks.{chunk_turn, chunk_end}
use Rattle.terms.proofs.First.{ok_none, ok_step, ok_stop}
use native.Mathlib.Omega.{arith}
use Rattle.terms.proofs.names_read.Goals as goal

pub loop-slot-init : goal.loop-slot-init
loop-slot-init c = ok_none _

pub loop-slot-preserved : goal.loop-slot-preserved
loop-slot-preserved c =
    let u = c.loop-slot in
    let names = c.args.names.now in
    let turn = chunk_turn 16 names c.args.count u.yielded _ _ c.next.new.self _ (cc) (cc) (cc) u.yielded_by _ c.in-Some.is c.next.ensures.steps in
    rw length-append
    (ok_step (λ (i : ℕ). read_term (slot names i)) (length u.yielded) c.in_ok-read_term.field-0 u.invariant
    (ap read_term (sym turn.1) ∙ sym c.read_term.ensures ∙ c.in_ok-read_term.was))

pub returns-in_err-read_term : goal.returns-in_err-read_term
returns-in_err-read_term c =
    let u = c.loop-slot in
    let names = c.args.names.now in
    let why = c.in_err-read_term.field-0.0 in
    let turn = chunk_turn 16 names c.args.count u.yielded _ _ c.next.new.self _ (cc) (cc) (cc) u.yielded_by _ c.in-Some.is c.next.ensures.steps in
    let given : c.from_residual.result ≡ Err why = search rules in
    given
    ∙ sym
    (ok_stop (λ (i : ℕ). read_term (slot names i)) (length u.yielded) c.args.count why turn.0 u.invariant
    (ap read_term (sym turn.1) ∙ sym c.read_term.ensures ∙ c.in_err-read_term.was))

pub returns : goal.returns
returns c =
    let u = c.loop-slot in
    let all = chunk_end 16 c.args.names.now c.args.count u.yielded _ _ c.next.new.self _ (cc) (cc) (cc) u.yielded_by c.requires (omega arith) c.in-None.is c.next.ensures.steps in
    sym (rw all at u.invariant)
