use native.Mathlib.Omega.{arith}
use mathlib.Core.Path.{ap, ◌∙◌}
use lib.ListN.{length, get_or}
use Rattle.design.specs.Sights.{SightInputs}
use Rattle.design.proofs.Rows.{pairing_start, pairing_next, pairing_end}
use Rattle.design.proofs.run.SightInput.fill_pairs.Goals as goal

pub loop-r-init : goal.loop-r-init
loop-r-init g c = λ f p. pairing_start _ _ _ _ (omega arith)

pub loop-r-preserved : goal.loop-r-preserved
loop-r-preserved g c = λ f p.
    let v = c.self.view_is in
    let r = c.loop-r.r in
    let count = ap (λ (s : SightInputs). length s.used) v in
    let stars = ap (λ (s : SightInputs). length s.pier) v in
    let i = c.from-i.ensures ∙ ap (λ (s : SightInputs). get_or s.used r 0) v in
    pairing_next _ _ _ (c.loop-r.invariant f p) _ (omega arith)
    (rw i at (p _ _ (omega (arith, c.self.invariant.used_below r (omega arith))) c.at_star-p.ensures))

pub returns : goal.returns
returns g c = λ f p.
    let count = ap (λ (s : SightInputs). length s.used) c.self.view_is in
    pairing_end _ _ _ (c.loop-r.invariant f p) (omega arith)
