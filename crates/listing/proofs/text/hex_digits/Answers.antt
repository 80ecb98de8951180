use Rattle.std.proofs.Common.{arith, refl, ◌∙◌}
use Rattle.sequence.proofs.Fills.{filled_none, stored, filled_end, filled_all}
use Rattle.listing.specs.Text.{hexadecimal}
use Rattle.listing.proofs.text.hex_digits.Goals as goal

pub loop-i-init : goal.loop-i-init
loop-i-init c = (omega arith, refl, filled_none _ _)

pub loop-i-preserved : goal.loop-i-preserved
loop-i-preserved c =
    let l = c.loop-i in
    (omega arith, refl, stored _ l.i _ l.d-items _ (omega arith) l.invariant.2 c.digit_of.ensures)

pub returns : goal.returns
unfolding hexadecimal
returns c =
    let l = c.loop-i in
    filled_end _ l.i 16 _ _ (omega arith) (omega arith) l.invariant.2 ∙ filled_all _ 16 _ (omega arith)
