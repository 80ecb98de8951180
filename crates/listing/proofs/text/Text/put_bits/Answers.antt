use Rattle.std.proofs.Common.{rules}
use Rattle.listing.specs.Text.{bits_of}
use Rattle.listing.proofs.text.Text.put_bits.Goals as goal

pub returns-clause-wrote : goal.returns-clause-wrote
unfolding bits_of
returns-clause-wrote c = search rules
