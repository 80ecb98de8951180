-- The parts of the fit of a run: its change and its set, and what scratch holds as its fronts are lent one after the other. Assumes nothing.
use Prim.Native.Nat.{ℕ, ◌+◌, ◌*◌, ◌≤◌}
use native.Mathlib.Omega.{arith}
use mathlib.Core.Path.{◌≡◌, refl, ap, ◌∙◌}
use mathlib.Core.List.{List, ◌++◌, zip_with}
use lib.ListN.{length, take, drop, replicate}
use lib.Seq.{length-take-le}
use lib.Ieee.{Float, add, sub, binary64}
use Rattle.std.specs.Prelude.{Ok}
use Rattle.float.specs.Float.{#0}
use Rattle.sequence.specs.Sequence.{at, part}
use Rattle.sequence.proofs.Parts.{part-take}
use Rattle.linalg.specs.declared.SolveOutcome.{SolveOutcome}
use Rattle.linalg.specs.Linalg.{Solved, leverage_of}
use Rattle.solver.specs.declared.FitResult.{FitResult}
use Rattle.solver.specs.declared.SigmaBy.{SigmaBy}
use Rattle.solver.specs.Call.{Buffers, buffers}
use Rattle.design.specs.Design.{RunInputs, run_from, sights_at, product, extracted, weighed_at, scattered}
use Rattle.design.specs.Counted.{Counted}
use Rattle.design.proofs.Runs.{rows_are, free_room}
use Rattle.stats.specs.declared.Sky.{Sky}
use Rattle.stats.specs.Stats.{degrees, sky_from, divisor, variance, sigma_at}
use Rattle.outcome.specs.Outcome.{diagnostic_from, diagnostic_numbers, answer_of, outcome}
use Rattle.outcome.specs.Scratch.{count_of, height_in, residuals_in, b_in, sky_in, columns_in, solved_in}
use Rattle.outcome.proofs.Front.{renewed, Renewed, front_long, front_again, front_rest, front_part, front_above}
use Rattle.outcome.proofs.Laws.{InOrder, solved_in-order, finishes}
use Rattle.outcome.proofs.Runs.{unweighed_are}
use Rattle.single_step.specs.SingleStep.{to_fit, step, change, new_coefficients, free_residuals, actual_residuals, once, fitted_run}

pub step_in_order : (l : RunInputs) (s : List Float) → InOrder (length l.free) (step (run_from l) s).outcome
unfolding step
step_in_order l s = solved_in-order _ _ (length l.free) _ _ _

-- ---- the change and the set

module _ (l : RunInputs) (s : List Float) where
  pub change_is : (w was ch : List Float) (o : SolveOutcome) → l.m ≤ length was → solved_in l w o ≡ step (run_from l) s
      → ch ≡ scattered l.free (at o.x) (replicate (length (take l.m was)) #0) → ch ≡ change (run_from l) s
  unfolding change
  change_is w was ch o room e q =
      q ∙ rw (length-take-le l.m was room) (ap (λ (x : Solved). scattered l.free (at x.outcome.x) (replicate l.m #0)) e)

  pub set_is : (was ch set : List Float) → Renewed was ch l.m → ch ≡ change (run_from l) s
      → set ≡ zip_with (add binary64) s (take l.m (renewed was ch l.m)) → set ≡ new_coefficients (run_from l) s
  unfolding new_coefficients
  set_is was ch set r e q = q ∙ rw (front_again r, e) refl

-- ---- scratch: its first `need` numbers came back as a from the step, then 4·n as v, then 8·n as r

abbrev pub after_sky : RunInputs → ℕ → List Float → List Float → List Float → List Float
after_sky l need w a v = renewed (renewed w a need) v (4 * count_of l)

abbrev pub after_all : RunInputs → ℕ → List Float → List Float → List Float → List Float → List Float
after_all l need w a v r = renewed (after_sky l need w a v) r (8 * count_of l)

pub record Lent (l : RunInputs) (need : ℕ) (w a v r : List Float) : Type 0 where
  pub counted : Counted l
  pub room : 8 * count_of l + l.m * height_in l ≤ need
  pub stepped : Renewed w a need
  pub seen : Renewed (renewed w a need) v (4 * count_of l)
  pub left : Renewed (after_sky l need w a v) r (8 * count_of l)

module _ {l : RunInputs} {need : ℕ} {w a v r : List Float} (t : Lent l need w a v r) where
  pub lent_long : length (after_all l need w a v r) ≡ length w
  lent_long = front_long t.left ∙ front_long t.seen ∙ front_long t.stepped

  pub lent_fits : need ≤ length (after_all l need w a v r)
  lent_fits = rw lent_long t.stepped.room

  above : (i : ℕ) → 8 * count_of l ≤ i → drop i (after_all l need w a v r) ≡ drop i (renewed w a need)
  above i h = front_above t.left i h ∙ front_above t.seen i (omega arith)

  pub rest_kept : drop need (after_all l need w a v r) ≡ drop need w
  rest_kept = above need (omega (arith, t.room)) ∙ front_rest t.stepped

  -- what the step made, where it is lent last
  pub step_kept : (o : SolveOutcome) (s : Solved) → solved_in l a o ≡ s → solved_in l (take need (after_all l need w a v r)) o ≡ s
  step_kept o s e =
      let n = count_of l in
      let k = length l.free * height_in l in
      let few : 8 * n + k ≤ need = omega (arith, t.room, free_room l t.counted (height_in l)) in
      let same : columns_in l (take need (after_all l need w a v r)) ≡ columns_in l a =
      part-take (after_all l need w a v r) (8 * n) k need few lent_fits ∙ ap (take k) (above (8 * n) (omega arith)) ∙ front_part t.stepped (8 * n) k few in
      ap (λ (u : List Float). record { outcome = o; w = u }) same ∙ e

  -- the free terms' residuals
  pub residuals_are : (o : SolveOutcome) (s : List Float) → solved_in l a o ≡ step (run_from l) s → b_in l a ≡ to_fit (run_from l) s
      → part r (2 * count_of l) (2 * count_of l)
      ≡ zip_with (sub binary64) (b_in l (take (8 * count_of l) (after_sky l need w a v)))
      (product (2 * count_of l) (length l.free) (at o.x) (extracted l.free
      (weighed_at #0 (sky_in l (take (8 * count_of l) (after_sky l need w a v))) l.settings (sights_at l.pier l.sheets l.used) l.names)))
      → residuals_in l (take need (after_all l need w a v r)) ≡ free_residuals (run_from l) s
  unfolding free_residuals
  residuals_are o s e b q =
      let n = count_of l in
      let w₂ = after_sky l need w a v in
      let right : b_in l (take (8 * n) w₂) ≡ to_fit (run_from l) s =
      part-take w₂ (4 * n) (2 * n) (8 * n) (omega arith) t.left.room ∙ ap (take (2 * n)) (front_above t.seen (4 * n) (omega arith))
      ∙ front_part t.stepped (4 * n) (2 * n) (omega (arith, t.room)) ∙ b in
      let x : o.x ≡ (step (run_from l) s).outcome.x = ap (λ (u : Solved). u.outcome.x) e in
      part-take (after_all l need w a v r) (2 * n) (2 * n) need (omega (arith, t.room)) lent_fits ∙ front_part t.left (2 * n) (2 * n) (omega arith)
      ∙ q ∙ rw (right, x, unweighed_are l (sky_in l (take (8 * n) w₂)), rows_are l) refl

-- ---- all of it

pub run-fitted : (l : RunInputs) (by : SigmaBy) (s : List Float) (need : ℕ) (b : Buffers) (a v r d moved set sigma' diagnostics' : List Float)
    (o : SolveOutcome) (sky : Sky) (answer : FitResult)
    → Lent l need b.scratch a v r → solved_in l a o ≡ step (run_from l) s → b_in l a ≡ to_fit (run_from l) s
    → Renewed b.change moved l.m → moved ≡ scattered l.free (at o.x) (replicate (length (take l.m b.change)) #0)
    → Renewed b.coefficients set l.m → set ≡ zip_with (add binary64) s (take l.m (renewed b.change moved l.m))
    → sky ≡ sky_from (run_from l).stars (length l.free)
    (actual_residuals (run_from l) (take l.m (renewed b.coefficients set l.m)))
    → part r (2 * count_of l) (2 * count_of l)
    ≡ zip_with (sub binary64) (b_in l (take (8 * count_of l) (after_sky l need b.scratch a v)))
    (product (2 * count_of l) (length l.free) (at o.x) (extracted l.free
    (weighed_at #0 (sky_in l (take (8 * count_of l) (after_sky l need b.scratch a v))) l.settings (sights_at l.pier l.sheets l.used) l.names)))
    → answer ≡ answer_of (length l.free) l.settings o sky once
    → sigma'
    ≡ scattered l.free
    (sigma_at (variance (residuals_in l (take need (after_all l need b.scratch a v r))) (divisor by (count_of l) o.rank)) o.cov_diag)
    (replicate l.m #0)
    ++ drop l.m b.sigma
    → diagnostics'
    ≡ diagnostic_numbers (count_of l) (diagnostic_from (degrees (2 * count_of l) o.rank) (residuals_in l (take need (after_all l need b.scratch a v r)))
    (leverage_of (height_in l) (columns_in l (take need (after_all l need b.scratch a v r))) (take (length l.free) o.order) o.inv_s))
    ++ drop (3 * count_of l) b.diagnostics
    → d ≡ replicate (length (take need (after_all l need b.scratch a v r))) #0
    → outcome (Ok answer)
    (buffers (renewed b.coefficients set l.m) (renewed b.change moved l.m) sigma' diagnostics'
    (renewed (after_all l need b.scratch a v r) d need))
    ≡ fitted_run (run_from l) by need s b
unfolding fitted_run
run-fitted l by s need b a v r d moved set sigma' diagnostics' o sky answer t es eb km em ks et ek er ea ei ed ez =
    let w₃ = after_all l need b.scratch a v r in
    let ch : moved ≡ change (run_from l) s = change_is l s a b.change moved o km.room es em in
    let new : set ≡ new_coefficients (run_from l) s = set_is l s b.change moved set km ch et in
    let k = rw (front_again ks, new) at ek in
    let zs : renewed w₃ d need ≡ replicate need #0 ++ drop need b.scratch = rw (ez, length-take-le need w₃ (lent_fits t), rest_kept t) refl in
    finishes l by need b (take need w₃) _ _ _ _ _ _ sigma' diagnostics' _ o (step (run_from l) s) sky once answer
    (step_kept t o (step (run_from l) s) es) (residuals_are t o s es eb er) k
    (ap (λ (x : List Float). x ++ drop l.m b.coefficients) new) (ap (λ (x : List Float). x ++ drop l.m b.change) ch) ea ei ed zs
