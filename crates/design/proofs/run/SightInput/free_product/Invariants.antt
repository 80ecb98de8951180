-- `design::SightInput::free_product` meets its contract. The invariant: the first i free terms are added. Assumes nothing.
use Prim.Native.Nat.{ℕ, ◌*◌}
use mathlib.Core.Bool.{false}
use mathlib.Core.List.{List}
use lib.ListN.{length, get_or}
use lib.Ieee.{Float}
use Rattle.terms.specs.declared.Term.{Term}
use Rattle.solver.specs.declared.Settings.{Settings}
use Rattle.sequence.specs.Sequence.{at, part, Only}
use Rattle.design.specs.Design.{Star, term_at, sky_column, plus, weighing}
use Rattle.design.specs.Sights.{sights_in}
use Rattle.design.proofs.Terms.{Turned}
use Rattle.design.proofs.run.SightInput.free_product.Given as goal

-- the column of a term, whose rows have the residuals in v
abbrev pub col : Float → List Float → Settings → List Star → ℕ → Term → List Float
col k v s ss n t = weighing k (part v (6 * n) (2 * n)) (sky_column s ss t)

-- the i-th free term
abbrev pub term : List ℕ → List ℕ → ℕ → Term
term names free i = term_at names (get_or free i 0)

abbrev pub invariant-loop-i : goal.invariant-loop-i
invariant-loop-i l =
    let n = length l.self.used in
    Turned (λ y. false) plus (at l.x) (col l.k l.initial.v l.self.settings (sights_in l.self) n) (term l.names l.free) (2 * n) (length l.free)
    l.initial.v l.v l.i
    × Only 0 (4 * n) l.initial.v l.v
