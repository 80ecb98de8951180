-- `column::diagonal` meets its contract. The invariant: the first places are filled. Assumes nothing.
use mathlib.Core.Bool.{cond}
use lib.Dec.{eqb}
use lib.ListN.{length}
use Rattle.float.specs.Float.{#0}
use Rattle.sequence.proofs.Fills.{Filling}
use Rattle.column.proofs.diagonal.Given as goal

abbrev pub invariant-loop-i : goal.invariant-loop-i
invariant-loop-i l = Filling (λ k. cond (eqb k l.j) l.d #0) l.initial.x (length l.initial.x) l.i l.x
