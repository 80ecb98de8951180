use Rattle.std.proofs.Common.{rules, ◌∙◌, refl, append_assoc}
use Rattle.listing.proofs.Decimal.{written}
use Rattle.listing.proofs.text.Text.put_count.Goals as goal

pub returns-clause-wrote : goal.returns-clause-wrote
returns-clause-wrote c =
    let digits = c.as_bytes.ensures.value ∙ c.format.ensures.text ∙ written c.args.v (search rules) in
    rw (c.put-2.ensures, c.put.ensures, digits) (simp append_assoc refl)
