use Rattle.std.proofs.Common.{arith, sym, ◌∙◌, ◌++◌, ap, take, length-take-le}
use Rattle.listing.proofs.Writes.{name_front, name_short}
use Rattle.listing.proofs.text.Text.put_name.Goals as goal

pub returns-clause-wrote : goal.returns-clause-wrote
returns-clause-wrote c =
    let name = c.args.name in
    c.put.ensures ∙ ap (λ l. c.args.self.now ++ l) (ap (λ n. take n name) c.name_end-n.ensures ∙ name_front name)

pub slice_bounds-put-end : goal.slice_bounds-put-end
slice_bounds-put-end c = sym (length-take-le _ c.args.name (omega (arith, name_short c.args.name, c.name_end-n.ensures)))
