-- `column::Unit::change` meets its contract. The invariant: the first numbers are divided. Assumes nothing.
use Rattle.float.specs.Float.{◌⊘◌}
use Rattle.column.proofs.Laws.{Mapping}
use Rattle.column.proofs.UnitChange.change.Given as goal

abbrev pub invariant-loop-a : goal.invariant-loop-a
invariant-loop-a l = Mapping (λ a. a ⊘ l.n) l.initial.a-items l.a-index l.a-items
