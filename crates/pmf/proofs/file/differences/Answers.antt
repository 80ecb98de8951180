-- `pmf::file::differences` meets its contract. Assumes nothing.
use native.Mathlib.Omega.{arith}
use borrow.Author.Rules.{rules}
use lib.ListN.{length-take}
use Rattle.pmf.proofs.Laws.{lent_front}
use Rattle.pmf.proofs.file.differences.Goals as goal

pub read_doubles-requires : goal.read_doubles-requires
read_doubles-requires c = λ i h. let g = simp length-take at h in omega arith

pub returns : goal.returns
returns c = lent_front _ c.args.n _ _ c.read_doubles.ensures (search rules)
