-- `design::SightInput::fill_pairs` meets its contract. The invariant: the rows of the first r stars are filled. Assumes nothing.
use mathlib.Core.List.{[]}
use Rattle.observation.specs.declared.Pair.{Pair}
use Rattle.design.specs.Design.{Star, star_at}
use Rattle.design.specs.Calls.{GivesPairs}
use Rattle.design.proofs.Rows.{Pairing}
use Rattle.design.proofs.run.SightInput.fill_pairs.Given as goal

abbrev pub invariant-loop-r : goal.invariant-loop-r
invariant-loop-r g l =
    (f : Star → Pair) → GivesPairs (λ i p. goal.F-post g l.at_star i p) l.self f
    → Pairing f (star_at [] [] l.self.pier l.self.sheets) l.self.used l.initial.col l.r l.col
