-- `column::Scaled::change` meets its contract. The invariant: the first numbers are scaled. Assumes nothing.
use Rattle.float.specs.Float.{◌⊗◌}
use Rattle.column.proofs.Laws.{Mapping}
use Rattle.column.proofs.ScaledChange.change.Given as goal

abbrev pub invariant-loop-a : goal.invariant-loop-a
invariant-loop-a l = Mapping (λ a. a ⊗ l.s) l.initial.a-items l.a-index l.a-items
