use Rattle.std.proofs.Common.{◌≡◌, refl, append_assoc, subst}
use Rattle.listing.specs.Text.{Wrote}
use Rattle.listing.specs.Listing.{refusal_text}
use Rattle.listing.proofs.put_refusal.Goals as goal

pub returns : goal.returns
unfolding refusal_text
returns c =
    let text : c.put-2.new.self ≡ refusal_text c.args.number = rw (c.put-2.ensures, c.put_count.ensures.wrote, c.put.ensures, c.new-text.ensures, c.from.ensures) (simp append_assoc refl) in
    subst (λ l. Wrote l 0 c.args.out.now c.lend_to.new.out c.lend_to.result) text c.lend_to.ensures
