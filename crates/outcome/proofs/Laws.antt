-- What the residuals and the last steps of a fit leave. Assumes nothing.
use Prim.Native.Nat.{ℕ, ◌+◌, ◌*◌, ◌≤◌}
use native.Mathlib.Omega.{arith}
use mathlib.Core.Path.{◌≡◌, refl, ap, ◌∙◌}
use mathlib.Core.Bool.{Bool, true, false}
use mathlib.Core.List.{List, ◌++◌, zip_with}
use lib.ListN.{length, take, drop, replicate}
use lib.Seq.{sets}
use lib.Ieee.{Float, le}
use Rattle.std.specs.Prelude.{Ok}
use Rattle.limits.specs.Limits.{max_terms, max_stars}
use Rattle.float.specs.Float.{#0}
use Rattle.sequence.specs.Sequence.{part, Only}
use Rattle.sequence.proofs.Parts.{length_part, part_sets_same, length_zip_part}
use Rattle.linalg.specs.declared.SolveOutcome.{SolveOutcome}
use Rattle.linalg.specs.Linalg.{Placed, leverage_of, in_order, Solved, answered, solved, solved_damped}
use Rattle.linalg.proofs.Laws.{in_order_placed}
use Rattle.solver.specs.declared.FitResult.{FitResult}
use Rattle.solver.specs.declared.IterReport.{IterReport}
use Rattle.solver.specs.declared.SigmaBy.{SigmaBy}
use Rattle.solver.specs.Call.{Buffers, buffers}
use Rattle.design.specs.Design.{RunInputs, run_from, scattered}
use Rattle.design.specs.Counted.{Below}
use Rattle.design.proofs.Runs.{count_is}
use Rattle.stats.specs.declared.Sky.{Sky}
use Rattle.stats.specs.Stats.{degrees, sky_from, divisor, variance, sigma_at}
use Rattle.outcome.specs.Outcome.{sigma_of, diagnostic_from, diagnostic_of, diagnostic_numbers, answer_of, outcome, finished}
use Rattle.outcome.specs.Scratch.{count_of, height_in, residuals_in, columns_in, solved_in, Fits}
use Rattle.outcome.proofs.Runs.{fits_free}

-- ---- residuals: a product p at 2·n has been taken from what lies at 4·n

pub free_taken : (f : Float → Float → Float) (n : ℕ) (v v₁ v₂ p : List Float) → length v ≡ 8 * n → part v₁ (2 * n) (2 * n) ≡ p → Only 0 (4 * n) v v₁
    → v₂ ≡ sets v₁ (2 * n) (zip_with f (part v₁ (4 * n) (2 * n)) (part v₁ (2 * n) (2 * n)))
    → part v₂ (2 * n) (2 * n) ≡ zip_with f (part v (4 * n) (2 * n)) p
free_taken f n v v₁ v₂ p long is only e =
    let kept : length v₁ ≡ length v = only.long in
    let old : part v₁ (4 * n) (2 * n) ≡ part v (4 * n) (2 * n) = only.above (4 * n) (2 * n) (omega arith) in
    let z = zip_with f (part v₁ (4 * n) (2 * n)) (part v₁ (2 * n) (2 * n)) in
    let count : length z ≡ 2 * n = length_zip_part f v₁ (4 * n) (2 * n) (2 * n) (omega arith) (omega arith) in
    ap (λ (u : List Float). part u (2 * n) (2 * n)) e ∙ part_sets_same v₁ (2 * n) (2 * n) z count (omega arith) ∙ rw (old, is)

-- ---- the order of the columns after a solve

-- the columns of m terms are in the order of some values
abbrev pub InOrder : ℕ → SolveOutcome → Type 0
InOrder m o = (s : List Float) × (o.order ≡ in_order m s)

pub solved_in-order : (h rows m : ℕ) (a b : List Float) (fitTol : Float) → InOrder m (solved h rows m a b fitTol).outcome
unfolding solved answered
solved_in-order h rows m a b fitTol = (_, refl)

pub damped_in_order : (h rows m : ℕ) (a b : List Float) (lambda fitTol : Float) → InOrder m (solved_damped h rows m a b lambda fitTol).outcome
unfolding solved_damped
damped_in_order h rows m a b lambda fitTol = by (le lambda #0) refl
  where
    by : (t : Bool) → le lambda #0 ≡ t → InOrder m (solved_damped h rows m a b lambda fitTol).outcome
    by true e = rw e (solved_in-order h rows m a b fitTol)
    by false e = rw e (solved_in-order h (rows + m) m _ b fitTol)

-- what `finish` requires, after a solve s
pub finish_ready : (l : RunInputs) (w sigma diagnostics : List Float) (o : SolveOutcome) (s : Solved) → Fits l w → solved_in l w o ≡ s
    → InOrder (length l.free) s.outcome → l.m ≤ length sigma → 3 * count_of l ≤ length diagnostics
    → (count_of l ≤ max_stars) × (l.m ≤ max_terms) × (length l.free ≤ l.m) × Below l.m l.free × (8 * count_of l + length l.free * height_in l ≤ length w)
    × Placed (height_in l) (columns_in l w) (take (length l.free) o.order)
    × (length (take (length l.free) o.order) ≡ length l.free) × (l.m ≤ length sigma) × (3 * count_of l ≤ length diagnostics)
finish_ready l w sigma diagnostics o s f e q hs hd =
    let c = f.counted in
    let k = length l.free in
    let few = (fits_free l w f).0 in
    let room = (fits_free l w f).1 in
    let long : length (columns_in l w) ≡ k * height_in l = length_part w (8 * count_of l) (k * height_in l) room in
    let order : o.order ≡ in_order k q.0 = ap (λ (x : Solved). x.outcome.order) e ∙ q.1 in
    let p = in_order_placed (height_in l) k (columns_in l w) q.0 o.order order few (omega arith) in
    (omega (arith, c.stars, c.used_few), c.terms, c.free_few, c.free_below, room, p.0, p.1, hs, hd)

-- ---- the end of a fit: from what `finish` ensures, where w held the last solve s and the residuals res that it left

pub finishes : (l : RunInputs) (by : SigmaBy) (need : ℕ) (b : Buffers) (w set change res under out' change' sigma' diagnostics' scratch' : List Float)
    (o : SolveOutcome) (s : Solved) (sky : Sky) (report : IterReport) (r : FitResult)
    → solved_in l w o ≡ s → residuals_in l w ≡ res → sky ≡ sky_from (run_from l).stars (length l.free) under
    → out' ≡ set ++ drop l.m b.coefficients → change' ≡ change ++ drop l.m b.change
    → r ≡ answer_of (length l.free) l.settings o sky report
    → sigma' ≡ scattered l.free (sigma_at (variance (residuals_in l w) (divisor by (count_of l) o.rank)) o.cov_diag) (replicate l.m #0)
    ++ drop l.m b.sigma
    → diagnostics' ≡ diagnostic_numbers (count_of l) (diagnostic_from (degrees (2 * count_of l) o.rank) (residuals_in l w)
    (leverage_of (height_in l) (columns_in l w) (take (length l.free) o.order) o.inv_s))
    ++ drop (3 * count_of l) b.diagnostics
    → scratch' ≡ replicate need #0 ++ drop need b.scratch
    → outcome (Ok r) (buffers out' change' sigma' diagnostics' scratch') ≡ finished (run_from l) by need b set change s res under report
unfolding finished sigma_of diagnostic_of
finishes l by need b w set change res under out' change' sigma' diagnostics' scratch' o s sky report r es er ek eo ec ea ei ed ez =
    rw (← es, ← er, ← ek, ← count_is l, ← eo, ← ec, ← ea, ← ei, ← ed, ← ez)
