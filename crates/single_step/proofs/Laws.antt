-- What the step of the single-step fit leaves in scratch, and what its residuals come to. Assumes nothing.
use Prim.Native.Nat.{ℕ, ◌+◌, ◌-◌, ◌*◌, ◌≤◌, ◌<◌}
use native.Mathlib.Nat.{add-sub_cancel_left}
use native.Mathlib.Omega.{arith}
use mathlib.Core.Path.{◌≡◌, refl, ap, ◌∙◌}
use mathlib.Core.List.{List, [], map, zip_with}
use lib.ListN.{length, take, drop}
use lib.Seq.{sets, length-sets}
use lib.Ieee.{Float, binary64, sub}
use Rattle.limits.specs.Limits.{max_terms}
use Rattle.float.specs.Float.{#0}
use Rattle.sequence.specs.Sequence.{at, part, Only}
use Rattle.sequence.proofs.Parts.{length_part, part-take, part_sets_same}
use Rattle.sequence.proofs.Only.{length_cut, back, back_only, back_part}
use Rattle.linalg.specs.declared.SolveOutcome.{SolveOutcome}
use Rattle.linalg.specs.Linalg.{solved}
use Rattle.design.specs.Design.{RunInputs, run_from, stars_at, sights_at, term_at, column, sky_column, differences, sky_differences}
use Rattle.design.specs.Design.{subtract_all, product, weighed_at, stacked}
use Rattle.design.specs.Counted.{Counted}
use Rattle.design.proofs.Runs.{rows_are, height_is, columns_are, sky_columns_are, differences_are, sky_differences_are}
use Rattle.stats.specs.declared.Sky.{Sky}
use Rattle.stats.specs.Stats.{sum_sq_sky, sky_of_sum, sky_from}
use Rattle.outcome.specs.Scratch.{count_of, height_in, b_in, sky_in, columns_in, solved_in, Fits}
use Rattle.outcome.proofs.Front.{renewed, Renewed, front_long, front_part}
use Rattle.outcome.proofs.Runs.{fits_free, unweighed_are, sky_is}
use Rattle.single_step.specs.SingleStep.{to_fit, step, actual_residuals}

-- ---- the step: the x numbers from x on came back as ys (u), the front of y numbers as zs (v), and the numbers from x on were copied to y

module _ (w ys : List Float) (x y : ℕ) (low : x + x ≤ y) (room : y + x ≤ length w) (kept : length ys ≡ length (take (x + x - x) (drop x w))) where
  back_long : length (back w ys x x) ≡ length w
  back_long = (back_only w ys x x (omega arith) kept).long

  pub back_fits : y ≤ length (back w ys x x)
  back_fits = let long : length (back w ys x x) ≡ length w = back_long in omega arith

  module _ {zs : List Float} (r : Renewed (back w ys x x) zs y) where
    pub copied_long : (w' : List Float) → w' ≡ sets (renewed (back w ys x x) zs y) y (part (renewed (back w ys x x) zs y) x x) → length w' ≡ length w
    copied_long w' e =
        let v = renewed (back w ys x x) zs y in
        ap length e ∙ length-sets v y (part v x x) ∙ front_long r ∙ back_long

    -- F of what came back first
    copied : (w' : List Float) (F : List Float → List Float) → w' ≡ sets (renewed (back w ys x x) zs y) y (part (renewed (back w ys x x) zs y) x x)
        → part zs x x ≡ F (part (take y (back w ys x x)) x x) → part w' y x ≡ F ys
    copied w' F e made =
        let u = back w ys x x in
        let v = renewed u zs y in
        let long : length v ≡ length w = front_long r ∙ back_long in
        let there : part v x x ≡ F ys = front_part r x x low ∙ made ∙ ap F (part-take u x x y low back_fits ∙ back_part w ys x x (omega arith) kept) in
        let count : length (part v x x) ≡ x = length_part v x x (omega arith) in
        ap (λ (t : List Float). part t y x) e ∙ part_sets_same v y x (part v x x) count (omega arith) ∙ there

pub fitted_to : (l : RunInputs) (s w ys zs w' : List Float) → Fits l w
    → length ys ≡ length (take (2 * count_of l + 2 * count_of l - 2 * count_of l) (drop (2 * count_of l) w))
    → ys ≡ sky_differences (stars_at l.dh l.dd [] l.sheets l.used)
    → Renewed (back w ys (2 * count_of l) (2 * count_of l)) zs (4 * count_of l)
    → part zs (2 * count_of l) (2 * count_of l)
    ≡ subtract_all (length s) (at s) (λ j. sky_column l.settings (sights_at l.pier l.sheets l.used) (term_at l.names j))
    (part (take (4 * count_of l) (back w ys (2 * count_of l) (2 * count_of l))) (2 * count_of l) (2 * count_of l))
    → w' ≡ sets (renewed (back w ys (2 * count_of l) (2 * count_of l)) zs (4 * count_of l)) (4 * count_of l)
    (part (renewed (back w ys (2 * count_of l) (2 * count_of l)) zs (4 * count_of l)) (2 * count_of l) (2 * count_of l))
    → b_in l w' ≡ to_fit (run_from l) s
unfolding to_fit
fitted_to l s w ys zs w' f kept is r made e =
    let F = subtract_all (length s) (at s) (λ j. sky_column l.settings (sights_at l.pier l.sheets l.used) (term_at l.names j)) in
    copied w ys (2 * count_of l) (4 * count_of l) (omega arith) (omega (arith, f.room)) kept r w' F e made
    ∙ rw (is, sky_columns_are l, sky_differences_are l) refl

-- the residuals were at 4·n (w), then the columns were stacked (w₁) and the system solved (w₂)
pub stepped : (l : RunInputs) (s w w₁ w₂ : List Float) (o : SolveOutcome) → Counted l → b_in l w ≡ to_fit (run_from l) s
    → part w₁ (8 * count_of l) (length l.free * height_in l)
    ≡ stacked (height_in l) (map (weighed_at #0 (sky_in l w) l.settings (sights_at l.pier l.sheets l.used) l.names) l.free)
    → Only (8 * count_of l) (length l.free * height_in l) w w₁
    → solved_in l w₂ o ≡ solved (height_in l) (2 * count_of l) (length l.free) (columns_in l w₁) (b_in l w₁) l.settings.fit_tol
    → Only (8 * count_of l) (length l.free * height_in l) w₁ w₂
    → (solved_in l w₂ o ≡ step (run_from l) s) × (b_in l w₂ ≡ to_fit (run_from l) s)
unfolding step
stepped l s w w₁ w₂ o c b cols only e only' =
    let n = count_of l in
    let b₁ : b_in l w₁ ≡ to_fit (run_from l) s = only.below (4 * n) (2 * n) (omega arith) ∙ b in
    (e ∙ rw (cols, unweighed_are l (sky_in l w), b₁, height_is l, rows_are l) refl, only'.below (4 * n) (2 * n) (omega arith) ∙ b₁)

-- ---- what is left on the sky

-- a product was made at x in v, and taken from the differences, which came back there as ys
pub left_on_sky : (l : RunInputs) (s v ys : List Float) (sum : Float) (sky : Sky) → Counted l → 2 * count_of l + 2 * count_of l ≤ length v
    → part v (2 * count_of l) (2 * count_of l)
    ≡ product (2 * count_of l) (length s) (at s) (λ j. column l.settings (sights_at l.pier l.sheets l.used) (term_at l.names j))
    → length ys ≡ length (take (2 * count_of l + 2 * count_of l - 2 * count_of l) (drop (2 * count_of l) v))
    → ys ≡ zip_with (sub binary64) (differences (stars_at l.dh l.dd [] [] l.used))
    (take (2 * count_of l + 2 * count_of l - 2 * count_of l) (drop (2 * count_of l) v))
    → sum ≡ sum_sq_sky (sights_at [] l.sheets l.used)
    (take (2 * count_of l + 2 * count_of l - 2 * count_of l) (drop (2 * count_of l) (back v ys (2 * count_of l) (2 * count_of l))))
    → sky ≡ sky_of_sum (count_of l) (length l.free) sum
    → sky ≡ sky_from (run_from l).stars (length l.free) (actual_residuals (run_from l) s)
unfolding actual_residuals
left_on_sky l s v ys sum sky c room p kept e q g =
    let x = 2 * count_of l in
    let cut : x + x - x ≡ x = add-sub_cancel_left x x in
    let is : ys ≡ actual_residuals (run_from l) s = rw (cut, p, differences_are l, columns_are l, rows_are l) at e in
    let there : take (x + x - x) (drop x (back v ys x x)) ≡ actual_residuals (run_from l) s =
    ap (λ (k : ℕ). take k (drop x (back v ys x x))) cut ∙ back_part v ys x x room kept ∙ is in
    sky_is l (actual_residuals (run_from l) s) sum sky (rw there at q) g
