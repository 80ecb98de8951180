-- `pmf::file::read_doubles` meets its contract. The invariant: the first i doubles are read. Assumes nothing.
use Prim.Native.Nat.{◌+◌, ◌*◌}
use lib.ListN.{length}
use Rattle.sequence.proofs.Fills.{Filling}
use Rattle.pmf.specs.File.{double}
use Rattle.pmf.proofs.file.read_doubles.Given as goal

abbrev pub invariant-loop-i : goal.invariant-loop-i
invariant-loop-i l = Filling (λ j. double l.s (l.start + l.stride * j)) l.initial.out (length l.initial.out) l.i l.out
