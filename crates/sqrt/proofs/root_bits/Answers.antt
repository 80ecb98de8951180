-- `sqrt::root_bits` meets its contract. Assumes nothing.
use Rattle.sqrt.proofs.Assemble.{both_bits}
use Rattle.sqrt.proofs.root_bits.Goals as goal

pub returns : goal.returns
returns c = both_bits c.args.m c.args.e c.near_root.result c.requires.0 c.requires.1 c.requires.2 c.near_root.ensures
