-- `pmf::file::sheets` meets its contract. The invariant: the first k numbers are read. Assumes nothing.
use Prim.Native.Nat.{◌*◌, ◌/◌, ◌%◌}
use mathlib.Core.Path.{◌≡◌}
use lib.ListN.{length}
use Rattle.limits.specs.Limits.{sheet_numbers}
use Rattle.sequence.proofs.Fills.{Filling}
use Rattle.pmf.specs.File.{double, sheet_place}
use Rattle.pmf.proofs.file.sheets.Given as goal

abbrev pub invariant-loop-k : goal.invariant-loop-k
invariant-loop-k l =
    (length l.initial.x-items ≡ sheet_numbers * l.n)
    × Filling (λ j. double l.s (sheet_place l.m (j / sheet_numbers) (j % sheet_numbers))) l.initial.x-items (sheet_numbers * l.n) l.k l.x-items
