-- `sqrt::sqrt` meets its contract. Assumes nothing.
use Rattle.std.proofs.Common.{T, sym, ap, ◌∙◌, subst}
use lib.Ieee.{binary64, fits}
use lib.Ieee.Bits.{of_bits-to_bits}
use Rattle.sqrt.specs.Sqrt as Def
use Rattle.float.proofs.Bits.{no_nan, bits_pos, no_nan_bits}
use Rattle.sqrt.proofs.Special.{at_nan, at_zero, at_negative, at_infinity}
use Rattle.sqrt.proofs.sqrt.Goals as goal
use Rattle.sqrt.proofs.sqrt.Goals.{Start, then-x-via-then-x, then-x-via-else-x+then-x-2}

-- what owning an `f64` tells: the format holds it
held : (c : Start) → T (fits binary64 c.args.x)
held c = subst T (sym c.well_formed.0.1) tt

pub returns-then-x : goal.returns-then-x
returns-then-x c = elim c.then-x.branch [ then-x-via-then-x w ↦ at_nan c.args.x w.if-x.true | then-x-via-else-x+then-x-2 w ↦ at_zero c.args.x w.if-x-2.true ]

pub returns-then-x-3 : goal.returns-then-x-3
returns-then-x-3 c = at_negative c.args.x c.if-x-3.true

pub float_to_bits-b : goal.float_to_bits-b
float_to_bits-b c = no_nan c.args.x c.if-x.false

pub sqrt_bits-requires : goal.sqrt_bits-requires
sqrt_bits-requires c = (bits_pos c.args.x (held c.before.before.before.before) c.if-x-2.false, c.if-b-lt9218868437227405312.true)

pub float_from_bits-result : goal.float_from_bits-result
float_from_bits-result c = no_nan_bits c.sqrt_bits.result c.sqrt_bits.ensures.finite

pub returns-then-b-lt9218868437227405312 : goal.returns-then-b-lt9218868437227405312
returns-then-b-lt9218868437227405312 c = c.sqrt_bits.ensures.is ∙ ap (Def.sqrt binary64) (of_bits-to_bits binary64 c.args.x (held c.before.before.before.before.before))

pub returns-else-b-lt9218868437227405312 : goal.returns-else-b-lt9218868437227405312
returns-else-b-lt9218868437227405312 c = at_infinity c.args.x (held c.before.before.before.before) c.if-x-3.false c.if-b-lt9218868437227405312.false
