-- `sqrt::divided_root` meets its contract. Assumes nothing.
use Rattle.std.proofs.Common.{ℕ, ◌-◌, ◌*◌, ◌/◌, ◌%◌, ◌^◌, arith}
use Rattle.sqrt.proofs.Split.{Split, split, split_up, split_down}
use Rattle.sqrt.proofs.divided_root.Goals as goal
use Rattle.sqrt.proofs.divided_root.Goals.{After-whole_root-s}

-- the locals d and u
abbrev d_of : ℕ → ℕ → ℕ
d_of a s = (a - s * s) * 2 ^ 25 / s

abbrev u_of : ℕ → ℕ → ℕ
u_of a s = (a - s * s) * 2 ^ 25 % s

parts : (c : After-whole_root-s) → Split c.args.a c.whole_root-s.result (d_of c.args.a c.whole_root-s.result) (u_of c.args.a c.whole_root-s.result)
parts c = split c.args.a c.whole_root-s.result c.requires.0 (omega arith) (c.whole_root-s.ensures.below, c.whole_root-s.ensures.above)

pub returns-then-d-q : goal.returns-then-d-q
returns-then-d-q c =
    let a = c.args.a in
    let s = c.whole_root-s.result in
    split_up a s (d_of a s) (u_of a s) c.requires.0 c.requires.1 (parts c.before) c.if-d-q.true

pub returns-else-d-q : goal.returns-else-d-q
returns-else-d-q c =
    let a = c.args.a in
    let s = c.whole_root-s.result in
    split_down a s (d_of a s) (u_of a s) c.requires.0 c.requires.1 (parts c.before) c.if-d-q.false
