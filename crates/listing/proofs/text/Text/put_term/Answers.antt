use Rattle.std.proofs.Common.{◌≡◌, ◌∙◌, refl, append_assoc}
use Rattle.terms.specs.Names.{read_term, term_or_blank}
use Rattle.listing.specs.Listing.{term_line}
use Rattle.listing.proofs.Writes.{or_blank}
use Rattle.listing.proofs.text.Text.put_term.Goals as goal

pub returns-clause-wrote : goal.returns-clause-wrote
unfolding term_line
returns-clause-wrote c =
    let slot = c.args.slot.now in
    let term : c.unwrap_or-term.result ≡ term_or_blank (read_term slot) = c.unwrap_or-term.ensures ∙ rw (c.read_term.ensures, c.blank.ensures) (or_blank (read_term slot)) in
    rw (c.put.ensures, c.put_either.ensures, c.put_floats.ensures.wrote, c.put_name.ensures.wrote, term) (simp append_assoc refl)
