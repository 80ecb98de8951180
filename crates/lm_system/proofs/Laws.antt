-- What the residuals under a set and the step of a trial leave in scratch. Assumes nothing.
use Prim.Native.Nat.{ℕ, ◌+◌, ◌-◌, ◌*◌, ◌≤◌}
use native.Mathlib.Nat.{add-sub_cancel_left}
use native.Mathlib.Omega.{arith}
use mathlib.Core.Path.{◌≡◌, refl, sym, ap, ◌∙◌}
use mathlib.Core.List.{List, [], ◌++◌, map, zip_with}
use lib.ListN.{length, take, drop, length-append, length-drop}
use lib.Seq.{sets, take_at, drop_at, drop-drop, length-take-le}
use lib.Ieee.{Float, binary64, sub}
use Rattle.sequence.specs.Sequence.{at, part, Only}
use Rattle.sequence.proofs.Parts.{length_part, part-take, part_sets_same}
use Rattle.sequence.proofs.Only.{only_sets, back, back_only, back_part}
use Rattle.best.specs.ChiSquare.{chi}
use Rattle.linalg.specs.declared.SolveOutcome.{SolveOutcome}
use Rattle.linalg.specs.Linalg.{solved_damped}
use Rattle.design.specs.Design.{RunInputs, run_from, stars_at, sights_at, term_at, column, differences, predicted, sky_rows, weighing, weighed_at, stacked}
use Rattle.design.specs.Counted.{Counted}
use Rattle.design.proofs.Terms.{weighing_long}
use Rattle.design.proofs.Runs.{rows_are, height_is, columns_are, sky_columns_are, differences_are, sky_rows_are}
use Rattle.stats.specs.Stats.{sum_sq_sky}
use Rattle.stats.proofs.Laws.{sum_sky_same}
use Rattle.outcome.specs.Scratch.{count_of, height_in, residuals_in, b_in, sky_in, columns_in, solved_in}
use Rattle.lm_system.specs.System.{residuals_under, sky_residuals, chi2_at, weighed_residuals, lm_step}

-- ---- a part of those from i to e, which were lent and came back as ys
pub back_within : (l ys : List Float) (i e x j k : ℕ) → i ≤ e → e ≤ length l → length ys ≡ length (take (e - i) (drop i l)) → x ≡ i + j → j + k ≤ e - i
    → part (take i l ++ (ys ++ drop (e - i) (drop i l))) x k ≡ part ys j k
back_within l ys i e x j k low room kept is h =
    let rest = drop (e - i) (drop i l) in
    let b = take i l ++ (ys ++ rest) in
    let long : length ys ≡ e - i = kept ∙ length_part l i (e - i) (omega arith) in
    rw is
    (ap (take k) (sym (drop-drop j i b))
    ∙ ap (λ (r : List Float). part r j k) (drop_at (take i l) (ys ++ rest) i (length-take-le i l (omega arith)))
    ∙ sym (part-take (ys ++ rest) j k (length ys) (omega arith) (simp length-append (omega arith)))
    ∙ ap (λ (r : List Float). part r j k) (take_at ys rest (length ys) refl))

-- ---- of v, n numbers have been copied behind themselves (v₁), have come back as f of them (ys), been copied again (v₂) and weighed by that (v₃)

pub weighed_both : (f : List Float → List Float) (k : Float) (n r : ℕ) (v v₁ ys v₂ v₃ : List Float) → r ≡ n + n → r + n ≤ length v
    → v₁ ≡ sets v n (part v 0 n) → length ys ≡ length (take (n + n - n) (drop n v₁)) → ys ≡ f (take (n + n - n) (drop n v₁))
    → v₂ ≡ sets (back v₁ ys n n) r (part (back v₁ ys n n) n n) → v₃ ≡ sets v₂ n (weighing k (part v₂ r n) (part v₂ n n))
    → (part v₃ r n ≡ f (part v 0 n)) × (part v₃ n n ≡ weighing k (part v₃ r n) (part v₃ r n))
weighed_both f k n r v v₁ ys v₂ v₃ er room e₁ kept e e₂ e₃ =
    let long₁ : length v₁ ≡ length v = rw e₁ (only_sets v n n (part v 0 n) (omega (arith, length_part v 0 n (omega arith)))).long in
    let at₁ : part v₁ n n ≡ part v 0 n = rw e₁ (part_sets_same v n n (part v 0 n) (length_part v 0 n (omega arith)) (omega arith)) in
    let b = back v₁ ys n n in
    let room₁ : n + n ≤ length v₁ = omega arith in
    let cut : take (n + n - n) (drop n v₁) ≡ part v 0 n = ap (λ (i : ℕ). take i (drop n v₁)) (add-sub_cancel_left n n) ∙ at₁ in
    let is : part b n n ≡ f (part v 0 n) = back_part v₁ ys n n room₁ kept ∙ e ∙ ap f cut in
    let long : length b ≡ length v = (back_only v₁ ys n n room₁ kept).long ∙ long₁ in
    let z = part b n n in
    let cz : length z ≡ n = length_part b n n (omega arith) in
    let o₂ : Only r n b v₂ = rw e₂ (only_sets b r n z (omega arith)) in
    let long₂ : length v₂ ≡ length v = o₂.long ∙ long in
    let at₂ : part v₂ r n ≡ z = rw e₂ (part_sets_same b r n z cz (omega arith)) in
    let same : part v₂ n n ≡ z = o₂.below n n (omega arith) in
    let q : v₃ ≡ sets v₂ n (weighing k z z) = rw (at₂, same) at e₃ in
    let cw : length (weighing k z z) ≡ n = weighing_long k z z refl ∙ cz in
    let at₃ : part v₃ r n ≡ z = rw q ((only_sets v₂ n n (weighing k z z) (omega arith)).above r n (omega arith)) ∙ at₂ in
    (at₃ ∙ is, rw (at₃, q) (part_sets_same v₂ n n (weighing k z z) cw (omega arith)))

-- ---- a run that is lent: `counted` says which

module _ {l : RunInputs} (counted : Counted l) where
  -- the 2·n numbers from 2·n on, as they are lent, and v when they have come back as ys
  abbrev lent : List Float → List Float
  lent v = take (2 * count_of l + 2 * count_of l - 2 * count_of l) (drop (2 * count_of l) v)

  lent_is : (v : List Float) → lent v ≡ residuals_in l v
  lent_is v = ap (λ (i : ℕ). take i (drop (2 * count_of l) v)) (add-sub_cancel_left (2 * count_of l) (2 * count_of l))

  -- what a set predicts lies behind a column's room, and came back as the differences less it
  pub under_set : (set v ys : List Float) → 4 * count_of l ≤ length v
      → part v (2 * count_of l) (2 * count_of l)
      ≡ predicted (2 * count_of l) (length set) (at set) (λ j. column l.settings (sights_at l.pier l.sheets l.used) (term_at l.names j))
      → length ys ≡ length (lent v) → ys ≡ zip_with (sub binary64) (differences (stars_at l.dh l.dd [] [] l.used)) (lent v)
      → residuals_in l (back v ys (2 * count_of l) (2 * count_of l)) ≡ residuals_under (run_from l) set
  unfolding residuals_under
  under_set set v ys room p kept e =
      let n = 2 * count_of l in
      back_part v ys n n (omega arith) kept ∙ e ∙ rw (lent_is v, p, columns_are l, differences_are l, rows_are l) refl

  -- their chi-square
  pub chi2_is : (set v : List Float) (s : Float) → residuals_in l v ≡ residuals_under (run_from l) set
      → s ≡ sum_sq_sky (sights_at [] l.sheets l.used) (lent v) → s ≡ chi2_at (run_from l) set
  unfolding chi2_at chi sum_sq_sky sky_residuals
  chi2_is set v s p e =
      e ∙ rw (lent_is v, p) (sym (sum_sky_same l.dh l.dd l.pier l.sheets l.used (residuals_under (run_from l) set)))

  -- w, whose numbers from 2·n to 8·n were lent and have come back as ys
  abbrev pub there : List Float → List Float → List Float
  there w ys = take (2 * count_of l) w ++ (ys ++ drop (8 * count_of l - 2 * count_of l) (drop (2 * count_of l) w))

  -- they held the residuals of a set, which are now on the sky, and weighed
  pub weighed_there : (set w ys : List Float) (k : Float) → 8 * count_of l ≤ length w → residuals_in l w ≡ residuals_under (run_from l) set
      → length ys ≡ length (take (8 * count_of l - 2 * count_of l) (drop (2 * count_of l) w))
      → (part ys (4 * count_of l) (2 * count_of l)
      ≡ sky_rows (sights_at [] l.sheets l.used) (part (take (8 * count_of l - 2 * count_of l) (drop (2 * count_of l) w)) 0 (2 * count_of l)))
      × (part ys (2 * count_of l) (2 * count_of l) ≡ weighing k (part ys (4 * count_of l) (2 * count_of l)) (part ys (4 * count_of l) (2 * count_of l)))
      → (sky_in l (there w ys) ≡ sky_residuals (run_from l) set) × (b_in l (there w ys) ≡ weighed_residuals (run_from l) k set)
  unfolding sky_residuals
  weighed_there set w ys k room left kept p =
      let n = count_of l in
      let cut : part (take (8 * n - 2 * n) (drop (2 * n) w)) 0 (2 * n) ≡ residuals_under (run_from l) set =
      part-take (drop (2 * n) w) 0 (2 * n) (8 * n - 2 * n) (omega arith) (simp length-drop (omega arith)) ∙ left in
      let sky : part ys (4 * n) (2 * n) ≡ sky_residuals (run_from l) set = p.0 ∙ rw cut (sky_rows_are l (residuals_under (run_from l) set)) in (
        back_within w ys (2 * n) (8 * n) (6 * n) (4 * n) (2 * n) (omega arith) room kept (omega arith) (omega arith) ∙ sky,
        back_within w ys (2 * n) (8 * n) (4 * n) (2 * n) (2 * n) (omega arith) room kept (omega arith) (omega arith) ∙ p.1 ∙ rw sky refl,
      )

  -- then the columns have been stacked, w₂, and solved, w₃
  pub stepped : (set w₁ w₂ w₃ : List Float) (k lambda : Float) (o : SolveOutcome)
      → (sky_in l w₁ ≡ sky_residuals (run_from l) set) × (b_in l w₁ ≡ weighed_residuals (run_from l) k set)
      → (columns_in l w₂
      ≡ stacked (height_in l) (map (weighed_at k (sky_in l w₁) l.settings (sights_at l.pier l.sheets l.used) l.names) l.free))
      × Only (8 * count_of l) (length l.free * height_in l) w₁ w₂
      → (solved_in l w₃ o ≡ solved_damped (height_in l) (2 * count_of l) (length l.free) (columns_in l w₂) (b_in l w₂) lambda l.settings.fit_tol)
      × Only (8 * count_of l) (length l.free * height_in l) w₂ w₃
      → (solved_in l w₃ o ≡ lm_step (run_from l) k lambda set) × ((b_in l w₃ ≡ weighed_residuals (run_from l) k set) × (sky_in l w₃ ≡ sky_residuals (run_from l) set))
  unfolding lm_step
  stepped set w₁ w₂ w₃ k lambda o p p₂ p₃ =
      let n = count_of l in
      let sky = sky_residuals (run_from l) set in
      let b₂ : b_in l w₂ ≡ weighed_residuals (run_from l) k set = p₂.1.below (4 * n) (2 * n) (omega arith) ∙ p.1 in
      let columns = rw p.0 at p₂.0 ∙ ap (λ a. stacked (height_in l) (map (λ j. weighing k sky (a j)) l.free)) (sky_columns_are l) in (
        p₃.0 ∙ rw (columns, b₂, height_is l, rows_are l) refl,
        (p₃.1.below (4 * n) (2 * n) (omega arith) ∙ b₂, p₃.1.below (6 * n) (2 * n) (omega arith) ∙ p₂.1.below (6 * n) (2 * n) (omega arith) ∙ p.0),
      )
