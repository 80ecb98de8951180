use Rattle.std.proofs.Common.{refl, append_assoc}
use Rattle.listing.specs.Text.{decimal, last_digits}
use Rattle.listing.specs.Listing.{counts_line}
use Rattle.listing.proofs.text.Text.put_counts.Goals as goal

pub returns-clause-wrote : goal.returns-clause-wrote
unfolding counts_line decimal last_digits
returns-clause-wrote c =
    rw (c.put-2.ensures, c.put_either-2.ensures, c.put_count-4.ensures.wrote, c.put_either.ensures, c.put_count-3.ensures.wrote)
    (rw (c.put_count-2.ensures.wrote, c.put_count.ensures.wrote, c.put.ensures) (simp append_assoc refl))
