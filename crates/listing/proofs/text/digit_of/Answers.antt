use Rattle.listing.proofs.Decimal.{digit-small, digit_large}
use Rattle.listing.proofs.text.digit_of.Goals as goal

pub returns-then-d-lt10 : goal.returns-then-d-lt10
returns-then-d-lt10 c = digit-small _ c.if-d-lt10.true

pub returns-else-d-lt10 : goal.returns-else-d-lt10
returns-else-d-lt10 c = digit_large _ c.if-d-lt10.false
