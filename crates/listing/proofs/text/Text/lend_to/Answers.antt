use Rattle.std.proofs.Common.{rules}
use Rattle.listing.proofs.Writes.{in_front}
use Rattle.listing.proofs.text.Text.lend_to.Goals as goal

pub returns : goal.returns
returns c = in_front c.args.self.now c.args.out.now _ c.self.inside.len (search rules) (search rules) (search rules)
