-- `column::change_columns` meets its contract. The invariant: the first j columns are done. Assumes nothing.
use Rattle.sequence.specs.Sequence.{at}
use Rattle.column.proofs.Columns.{Lending}
use Rattle.column.proofs.change_columns.Given as goal

abbrev pub invariant-loop-j : goal.invariant-loop-j
invariant-loop-j g l = Lending l.h l.rows (λ i. g.C.Change.changed (at l.n i)) l.initial.w l.m l.j l.w
