-- `sqrt::near_root` meets its contract: its result is certified, or divided out. Of the guess it shows that its products fit. Assumes nothing.
use Rattle.std.proofs.Common.{ℕ, ◌+◌, ◌-◌, ◌*◌, ◌/◌, ◌%◌, ◌^◌, ◌<◌, arith}
use Rattle.float.proofs.Powers.{product, doubled}
use Rattle.sqrt.proofs.near_root.Goals as goal

-- s is cut to 32 digits, what it leaves to 31, and z to 32
o_z : (o z : ℕ) → o % 2 ^ 31 * (z % 2 ^ 32) < 2 ^ 63
o_z o z = product 31 32 (omega arith) (omega arith)

-- m shifted up by one digit or none
pub overflow_mul-o : goal.overflow_mul-o
overflow_mul-o c = omega (arith, doubled c.args.m c.args.odd c.requires.2)

pub certified-requires : goal.certified-requires
certified-requires c =
    let y = c.inverse_root-y.result in
    let m = c.args.m in
    let odd = c.args.odd in
    let k = 0x80000000 + odd * 0x3504f334 in
    let s = m / 2 ^ 21 * k / 2 ^ 32 * y / 2 ^ 31 % 2 ^ 32 in
    let z = o_z ((m * 2 ^ odd % 2 ^ 64 * 1024 + (2 ^ 64 - s * s)) % 2 ^ 64 / 2 ^ 5) (y * (k / 2 ^ odd) / 2 ^ 31) in
    let h = doubled m odd c.requires.2 in
    (omega arith, omega arith, omega arith, omega arith)

pub divided_root-requires : goal.divided_root-requires
divided_root-requires c = omega (arith, doubled c.args.m c.args.odd c.requires.2)
