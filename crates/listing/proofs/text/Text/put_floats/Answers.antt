use Rattle.std.proofs.Common.{refl, append_assoc}
use Rattle.listing.specs.Listing.{floats}
use Rattle.listing.proofs.text.Text.put_floats.Goals as goal

pub returns-clause-wrote : goal.returns-clause-wrote
unfolding floats
returns-clause-wrote c = rw (c.put_bits-2.ensures.wrote, c.put-2.ensures, c.put_bits.ensures.wrote, c.put.ensures) (simp append_assoc refl)
