use native.Mathlib.Omega.{arith}
use mathlib.Core.Path.{◌∙◌, sym}
use lib.ListN.{get_or}
use Rattle.terms.proofs.Digits.{room, digits_next, digits_stop, digits_end}
use Rattle.terms.proofs.names.read_digits.Goals as goal

pub returns-then-not-is_ascii_digit : goal.returns-then-not-is_ascii_digit
returns-then-not-is_ascii_digit c =
    let l = c.loop-d in
    sym (l.invariant.1 ∙ digits_stop _ _ l.d-index (omega arith) c.if-not-is_ascii_digit.ensures.value)

pub overflow_mul-v : goal.overflow_mul-v
overflow_mul-v c =
    let l = c.loop-d in
    let r = room l.v l.d-index (get_or c.args.s.now l.d-index 0) l.invariant.0 (omega arith) c.if-not-is_ascii_digit.ensures.value in
    omega arith

pub overflow_add-v : goal.overflow_add-v
overflow_add-v c =
    let l = c.loop-d in
    let r = room l.v l.d-index (get_or c.args.s.now l.d-index 0) l.invariant.0 (omega arith) c.if-not-is_ascii_digit.ensures.value in
    omega arith

pub loop-d-preserved : goal.loop-d-preserved
loop-d-preserved c =
    let l = c.loop-d in
    let digit = c.if-not-is_ascii_digit.ensures.value in
    rw c.from.ensures
    ((room l.v l.d-index (get_or c.args.s.now l.d-index 0) l.invariant.0 (omega arith) digit).0, l.invariant.1 ∙ digits_next c.args.s.now l.v l.d-index (omega arith) digit)

pub returns : goal.returns
returns c =
    let l = c.loop-d in
    sym (l.invariant.1 ∙ digits_end _ _ l.d-index (omega arith))
