-- `jacobi::cosine` meets its contract. Assumes nothing.
use mathlib.Core.Path.{◌≡◌, sym, ap, ◌∙◌}
use lib.Ieee.{Float, binary64}
use lib.Ieee.Fits.{add-fits}
use Rattle.float.specs.Float.{#1, ◌⊕◌, ◌⊗◌, ◌⊘◌}
use Rattle.sqrt.specs.Sqrt.{sqrt}
use Rattle.jacobi.specs.Jacobi.{cos_of}
use Rattle.jacobi.proofs.One.{is_one, one_over_root}
use Rattle.jacobi.proofs.cosine.Goals as goal

pub returns-then-x : goal.returns-then-x
unfolding cos_of
returns-then-x c =
    let t = c.args.t in
    let e : #1 ⊕ t ⊗ t ≡ #1 = is_one (#1 ⊕ t ⊗ t) (add-fits binary64 #1 (t ⊗ t)) c.if-x.true in
    sym (ap (λ (x : Float). #1 ⊘ sqrt binary64 x) e ∙ one_over_root)

pub returns : goal.returns
unfolding cos_of
returns c = rw c.sqrt.ensures
