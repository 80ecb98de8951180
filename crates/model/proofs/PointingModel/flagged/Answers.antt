-- `model::PointingModel::flagged` meets its contract. Assumes nothing.
use native.Mathlib.Omega.{arith}
use mathlib.Core.Path.{◌≡◌, refl}
use borrow.Author.Rules.{rules}
use lib.ListN.{length}
use lib.Seq.{length-take-le}
use Rattle.sequence.specs.Sequence.{filled}
use Rattle.model.proofs.PointingModel.flagged.Goals as goal

pub returns : goal.returns
unfolding filled
returns c =
    let m = c.args.self in
    let long : length m.pier_sensitive ≡ 32 = search rules in
    rw (c.write_flags.ensures, length-take-le m.count m.pier_sensitive (omega (arith, c.requires))) refl
