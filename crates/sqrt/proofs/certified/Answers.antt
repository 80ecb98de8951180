-- `sqrt::certified` meets its contract: neither difference wraps. Assumes nothing.
use Rattle.std.proofs.Common.{◌≡◌, ◌+◌, ◌-◌, ◌*◌, ◌%◌, ◌^◌, ◌<◌, arith}
use Rattle.float.proofs.Powers.{product}
use Rattle.sqrt.proofs.Certificate.{certificate}
use Rattle.sqrt.proofs.certified.Goals as goal

pub returns : goal.returns
returns c =
    let a = c.args.a in
    let s = c.args.s in
    let d = c.args.d in
    let o = (a * 2 ^ 10 + (2 ^ 64 - s * s)) % 2 ^ 64 in
    let u = (o * 2 ^ 20 + 2 ^ 40 + (2 ^ 64 - s * d)) % 2 ^ 64 in
    let p : s * s < 2 ^ 64 = product 32 32 c.requires.2 c.requires.2 in
    let q : s * d < 2 ^ 58 = product 32 26 c.requires.2 c.requires.3 in
    let upper_left : s * s + o ≡ a * 2 ^ 10 = omega arith in
    let lower_left : s * d + u ≡ o * 2 ^ 20 + 2 ^ 40 = omega arith in
    certificate a s o d u c.requires.0 c.requires.1 upper_left lower_left c.if-v-q.false c.if-t-q.false
