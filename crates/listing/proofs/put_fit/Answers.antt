use Rattle.std.proofs.Common.{◌≡◌, refl, append_assoc, subst}
use Rattle.listing.specs.Text.{Wrote}
use Rattle.listing.specs.Listing.{fit_text, sky_line}
use Rattle.listing.proofs.put_fit.Goals as goal

pub returns : goal.returns
unfolding fit_text sky_line
returns c =
    let a = c.args in
    let text : c.put-2.new.self ≡ fit_text a.names.now a.m a.coefficients.now a.sigma.now a.r =
    rw (c.put-2.ensures, c.put_floats.ensures.wrote, c.put.ensures, c.put_terms.ensures.wrote, c.put_counts.ensures.wrote, c.new-text.ensures) (simp append_assoc refl) in
    subst (λ l. Wrote l 0 a.out.now c.lend_to.new.out c.lend_to.result) text c.lend_to.ensures
