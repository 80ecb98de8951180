-- `design::SightInput::build_design_matrix` meets its contract. The invariant: the design is filled up to column j. Assumes nothing.
use Rattle.design.specs.Matrix.{FilledUpTo}
use Rattle.design.specs.Sights.{matrix_in}
use Rattle.design.proofs.run.SightInput.build_design_matrix.Given as goal

abbrev pub invariant-loop-j : goal.invariant-loop-j
invariant-loop-j l = FilledUpTo (matrix_in l.names l.free l.self l.k l.initial.w) l.c l.h l.j l.initial.w l.w
