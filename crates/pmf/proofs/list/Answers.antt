-- `pmf::list` meets its contract. Assumes nothing.
use borrow.Author.Tests.{le-leb}
use mathlib.Core.Path.{sym, ◌∙◌}
use Rattle.listing.specs.Text.{listing_room}
use Rattle.pmf.specs.Pmf.{listed, listed_in}
use Rattle.pmf.proofs.Formed.{formed}
use Rattle.pmf.proofs.Listing.{into}
use Rattle.pmf.proofs.list.Goals as goal

pub list_file-requires : goal.list_file-requires
list_file-requires c = (c.if-text-lt-LISTING.false, formed _ _ (sym c.read_header.ensures ∙ c.in-Ok.is))

pub returns-in-Ok : goal.returns-in-Ok
unfolding listed_in listed
returns-in-Ok c = rw (le-leb listing_room _ c.if-text-lt-LISTING.false, ← c.read_header.ensures, c.in-Ok.is) (into c.list_file.ensures)

pub returns-in-Err : goal.returns-in-Err
unfolding listed_in listed
returns-in-Err c = rw (le-leb listing_room _ c.if-text-lt-LISTING.false, ← c.read_header.ensures, c.in-Err.is, ← c.number.ensures) (into c.put_refusal.ensures)
