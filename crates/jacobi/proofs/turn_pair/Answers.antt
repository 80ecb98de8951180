-- `jacobi::turn_pair` meets its contract. Assumes nothing.
use Prim.Native.Nat.{◌+◌, ◌*◌, ◌≤◌}
use native.Mathlib.Omega.{arith}
use lib.ListN.{length}
use Rattle.sequence.proofs.Parts.{apart, inside}
use Rattle.jacobi.proofs.Laws.{pair_turned}
use Rattle.jacobi.proofs.Pairs.{turned_pair, turned_sums}
use Rattle.jacobi.proofs.turn_pair.Goals as goal

pub returns-then-q-m : goal.returns-then-q-m
returns-then-q-m c =
    let own = c.requires in record { turned = λ b. pair_turned _ _ _ _ _ _ _ own.4 own.5 _ _ c.tangent-t.ensures c.cosine-c.ensures _ c.turn.ensures b; next = λ l. absurd (omega arith) }

pub turn_on-next-requires : goal.turn_on-next-requires
turn_on-next-requires c =
    let a = c.args in
    omega (arith, inside c.args.p c.args.q c.args.m c.args.h c.requires.0 c.requires.1, apart (a.q + 1) a.m a.h (omega arith))

pub returns : goal.returns
returns c =
    let a = c.args in
    let own = c.requires in
    let below = (inside c.args.p c.args.q c.args.m c.args.h c.requires.0 c.requires.1).0 in
    let fits : a.q * a.h + a.h ≤ length a.w.now = omega (arith, inside c.args.p c.args.q c.args.m c.args.h c.requires.0 c.requires.1) in
    let first = c.turn_on-next.ensures.turned in
    let sums = c.turn_on-next.ensures.sums in
    let second = c.turn-2.ensures in
    let t = c.tangent-t.ensures in record { turned = λ b. turned_pair _ _ _ _ _ _ _ _ _ _ first second below fits own.2 _ own.4 own.5 t c.cosine-c.ensures b; next = λ l. turned_sums _ _ _ _ _ _ _ _ _ _ first second below fits own.2 _ sums }
