-- `sqrt::sqrt_bits` meets its contract. Assumes nothing.
use Rattle.std.proofs.Common.{◌%◌, ◌^◌, ◌<◌, arith}
use Rattle.sqrt.proofs.Fields.{Up, shifted_up, normal_bits, subnormal_bits}
use Rattle.sqrt.proofs.sqrt_bits.Goals as goal
use Rattle.sqrt.proofs.sqrt_bits.Goals.{After-from-z}

-- where the exponent's field is 0, the digits are not, and their leading zeros are from 12 to 63
digits_pos : (c : After-from-z) → 0 < c.args.b % 2 ^ 52
digits_pos c = omega arith

up : (c : After-from-z) → Up (c.args.b % 2 ^ 52) c.from-z.result
up c = rw c.from-z.ensures (shifted_up (c.args.b % 2 ^ 52) (digits_pos c) (omega arith))

pub overflow_sub-z : goal.overflow_sub-z
overflow_sub-z c = omega (arith, up c)

pub root_bits-requires : goal.root_bits-requires
root_bits-requires c = omega (arith, up c)

pub returns-then-f-eq0 : goal.returns-then-f-eq0
returns-then-f-eq0 c =
    let b = c.args.b in
    subnormal_bits b c.root_bits.result c.before.from-z.result c.if-f-eq0.true (digits_pos c.before) (up c.before) c.root_bits.ensures

pub returns-else-f-eq0 : goal.returns-else-f-eq0
returns-else-f-eq0 c = normal_bits c.args.b c.root_bits-else-f-eq0.result c.requires.1 c.if-f-eq0.false c.root_bits-else-f-eq0.ensures
