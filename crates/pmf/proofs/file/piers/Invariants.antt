-- `pmf::file::piers` meets its contract. The invariant: the first i codes are read. Assumes nothing.
use mathlib.Core.Path.{◌≡◌}
use lib.ListN.{length, get_or}
use Rattle.sequence.proofs.Fills.{Filling}
use Rattle.pmf.specs.File.{pier_place}
use Rattle.pmf.proofs.file.piers.Given as goal

abbrev pub invariant-loop-i : goal.invariant-loop-i
invariant-loop-i l = (length l.initial.code-items ≡ l.n) × Filling (λ j. get_or l.s (pier_place l.m j) 0) l.initial.code-items l.n l.i l.code-items
