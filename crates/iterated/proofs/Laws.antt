-- A trial by its test, a turn of the loop by the trial's answer, and what they leave in scratch, as code meets them. Assumes nothing.
use Prim.Native.Nat.{ℕ, ◌+◌, ◌-◌, ◌*◌, ◌≤◌, ◌<◌}
use native.Mathlib.Omega.{arith}
use mathlib.Core.Path.{◌≡◌, refl, sym, ap, ◌∙◌}
use mathlib.Core.Bool.{Bool, true, false}
use mathlib.Core.List.{List, zip_with}
use lib.ListN.{length, take}
use lib.Ieee.{Float, inf, binary64, sub, lt, le}
use Rattle.float.specs.Float.{◌⊗◌, ◌⊘◌, #0}
use Rattle.sequence.specs.Sequence.{at, part}
use Rattle.sequence.proofs.Parts.{part-take}
use Rattle.best.specs.Trials.{after}
use Rattle.best.proofs.Turns.{begins, goes_on, is_left, ran_out}
use Rattle.linalg.specs.declared.SolveOutcome.{SolveOutcome}
use Rattle.linalg.specs.Linalg.{Solved}
use Rattle.solver.specs.declared.IterOptions.{IterOptions}
use Rattle.design.specs.Design.{RunInputs, run_from, sights_at, term_at, product, extracted, weighed_at}
use Rattle.design.specs.Counted.{Counted}
use Rattle.design.proofs.Runs.{with_terms, count_is, rows_are}
use Rattle.outcome.specs.Scratch.{count_of, height_in, residuals_in, b_in, sky_in, solved_in, Fits}
use Rattle.outcome.proofs.Front.{renewed, Renewed, front_part, front_above, front_long}
use Rattle.outcome.proofs.Runs.{weighed_are}
use Rattle.lm_system.specs.System.{residuals_under, sky_residuals, chi2_at, huber_from, huber_k_of, weighed_residuals, lm_step, moved, step_norm}
use Rattle.iterated.specs.declared.LmLoopResult.{LmLoopResult}
use Rattle.iterated.specs.declared.Trial.{Trial}
use Rattle.iterated.specs.declared.Trial.TheVariants.{Accepted, Rejected}
use Rattle.iterated.specs.Iterated.{step_from, proposal, Tried, tried_to, trial_of, Report, lambda_limit, answered, leaves, trials, begin, lm_loop}
use Rattle.iterated.specs.Iterated.{last_set, last_chi2, free_residuals, Left, Proposed, LastTried}

-- ---- no residual knows how many terms there are

pub residuals_same : (l : RunInputs) (m : ℕ) (s : List Float) → residuals_under (run_from (with_terms l m)) s ≡ residuals_under (run_from l) s
unfolding residuals_under
residuals_same l m s = refl

-- ---- scratch whose front, k numbers, has come back as ys

module _ {l : RunInputs} (c : Counted l) {w ys : List Float} {k : ℕ} (r : Renewed w ys k) where
  -- it holds the residuals
  pub left_front : (x : List Float) → 4 * count_of l ≤ k → residuals_in l ys ≡ x → residuals_in l (renewed w ys k) ≡ x
  left_front x h e = front_part r (2 * count_of l) (2 * count_of l) (omega arith) ∙ e

  above : (i n : ℕ) → k ≤ i → part (renewed w ys k) i n ≡ part w i n
  above i n h = ap (take n) (front_above r i h)

  -- what is solved lies behind it
  pub solved_front : (o : SolveOutcome) → k ≤ 8 * count_of l → solved_in l (renewed w ys k) o ≡ solved_in l w o
  solved_front o h = ap (λ (u : List Float). record { outcome = o; w = u }) (above (8 * count_of l) (length l.free * height_in l) h)

-- ---- a proposal: w after the step, whose front comes back as ys from the chi-square of the set that it leads to

pub proposes : {l : RunInputs} (c : Counted l) (k lambda : Float) (s w ys set : List Float) (chi2 : Float) (a : SolveOutcome) → Renewed w ys (4 * count_of l)
    → (solved_in l w a ≡ lm_step (run_from l) k lambda s)
    × ((b_in l w ≡ weighed_residuals (run_from l) k s) × (sky_in l w ≡ sky_residuals (run_from l) s))
    → take (length s) set ≡ moved l.free a.x s
    → (chi2 ≡ chi2_at (run_from l) (take (length s) set)) × (residuals_in l ys ≡ residuals_under (run_from l) (take (length s) set))
    → Proposed l k lambda s (renewed w ys (4 * count_of l)) set chi2 a
proposes {l} c k lambda s w ys set chi2 a r p e q =
    let n = count_of l in
    record {
      solution = solved_front c r a (omega arith) ∙ p.0;
      b = above c r (4 * n) (2 * n) (omega arith) ∙ p.1.0;
      sky = above c r (6 * n) (2 * n) (omega arith) ∙ p.1.1;
      trial = e;
      chi2_is = q.0 ∙ ap (chi2_at (run_from l)) e;
      left = left_front c r _ (omega arith) q.1 ∙ ap (residuals_under (run_from l)) e;
    }

-- ---- a trial from the set s, whose proposal is given

module _ {l : RunInputs} {k lambda : Float} {s w set : List Float} {next : Float} {a : SolveOutcome} (p : Proposed l k lambda s w set next a)
    (o : IterOptions) (chi2 : Float) (ek : k ≡ huber_from (count_of l) (length l.free) o chi2) where
  k-is : k ≡ huber_k_of (run_from l) o chi2
  k-is = ek ∙ ap (λ (n : ℕ). huber_from n (length l.free) o chi2) (count_is l)

  solution-is : solved_in l w a ≡ step_from (run_from l) o chi2 lambda s
  solution-is = p.solution ∙ ap (λ (z : Float). lm_step (run_from l) z lambda s) k-is

  x_is : a.x ≡ (step_from (run_from l) o chi2 lambda s).outcome.x
  x_is = ap (λ (z : Solved). z.outcome.x) solution-is

  trial-is : take (length s) set ≡ proposal (run_from l) o chi2 lambda s
  trial-is = p.trial ∙ ap (λ (x : List Float). moved l.free x s) x_is

  next-is : next ≡ chi2_at (run_from l) (proposal (run_from l) o chi2 lambda s)
  next-is = p.chi2_is ∙ ap (λ (x : List Float). chi2_at (run_from l) (moved l.free x s)) x_is

  -- it is kept, and its residuals lie there
  pub accepted : (norm : Float) (s' : List Float) → lt next chi2 ≡ true → norm ≡ step_norm (term_at l.names) l.free (take (length l.free) a.x)
      → s' ≡ take (length s) set → (tried_to (Accepted next norm) s' ≡ trial_of (run_from l) o chi2 lambda s) × Left l s' w
  unfolding trial_of
  accepted norm s' h en es = (rw (es ∙ trial-is, en, x_is, ← next-is, h) refl, p.left ∙ ap (residuals_under (run_from l)) (sym (es ∙ p.trial)))

  pub rejected : lt next chi2 ≡ false → tried_to (Rejected (lambda ⊗ o.lambda_up)) s ≡ trial_of (run_from l) o chi2 lambda s
  unfolding trial_of
  rejected h = rw (← next-is, h)

-- ---- the loop: after i turns it holds a set and how it came to it, and what is left of it comes to what the whole comes to

abbrev held : List Float → LmLoopResult → Report
held s how = record { set = s; how = how }

pub record Looping (l : RunInputs) (o : IterOptions) (s₀ s w : List Float) (i : ℕ) (how : LmLoopResult) : Type 0 where
  pub fits : Fits l w
  pub long : length s ≡ l.m
  pub turns : how.iterations ≡ i
  pub not_yet : how.converged ≡ false
  pub comes : lm_loop (run_from l) o s₀ ≡ after (trials (run_from l) o) (o.max_iter - i) (held s how)
  pub left : Left l s w

-- it begins where the residuals of the set have come back as ys
pub loop_begins : {l : RunInputs} (o : IterOptions) (s w ys : List Float) (norm chi2 : Float) → Fits l w → length ys ≡ length (take (4 * count_of l) w)
    → length s ≡ l.m → norm ≡ inf false → chi2 ≡ chi2_at (run_from l) s → residuals_in l ys ≡ residuals_under (run_from l) s
    → Looping l o s s (renewed w ys (4 * count_of l)) 0
    (record { iterations = 0; converged = false; lambda = o.initial_lambda; last_step_norm = norm; prev_chi2 = chi2 })
unfolding lm_loop
loop_begins {l} o s w ys norm chi2 f kept long en ec left =
    let r : Renewed w ys (4 * count_of l) = record { room = omega (arith, f.room); kept = kept } in
    record {
      fits = record { counted = f.counted; room = rw (front_long r) f.room };
      long = long;
      turns = refl;
      not_yet = refl;
      comes = begins (trials (run_from l) o) o.max_iter (begin (run_from l) o s) ∙ rw (en, ec);
      left = left_front f.counted r _ (omega arith) left;
    }

module _ {l : RunInputs} {o : IterOptions} {s₀ s w : List Float} {i : ℕ} {how : LmLoopResult} (u : Looping l o s₀ s w i how) where
  pub loop_over : o.max_iter ≤ i → held s how ≡ lm_loop (run_from l) o s₀
  loop_over h = ran_out (trials (run_from l) o) o.max_iter _ _ i h u.comes

  -- a trial gave t and left the set y and scratch w'
  module _ (more : i < o.max_iter) (t : Trial) (y w' : List Float) (did : tried_to t y ≡ trial_of (run_from l) o how.prev_chi2 how.lambda s) where
    turned : answered o (held s how) t y ≡ (trials (run_from l) o).turn (held s how)
    turned = ap (λ (z : Tried). answered o (held s how) z.answer z.set) did

    left_by : (trials (run_from l) o).ends (held s how) ≡ leaves o t
    left_by = sym (ap (λ (z : Tried). leaves o z.answer) did)

    goes : (how' : LmLoopResult) → held y how' ≡ answered o (held s how) t y → leaves o t ≡ false → how'.iterations ≡ i + 1 → how'.converged ≡ false
        → length y ≡ length s → length w' ≡ length w → Left l y w' → Looping l o s₀ y w' (i + 1) how'
    goes how' e h turns not_yet ly lw left =
        record {
          fits = record { counted = u.fits.counted; room = rw lw u.fits.room };
          long = ly ∙ u.long;
          turns = turns;
          not_yet = not_yet;
          comes = goes_on (trials (run_from l) o) o.max_iter _ _ i more u.comes _ (e ∙ turned) (left_by ∙ h);
          left = left;
        }

    ends : (z : Report) → z ≡ answered o (held s how) t y → leaves o t ≡ true → z ≡ lm_loop (run_from l) o s₀
    ends z e h = is_left (trials (run_from l) o) o.max_iter _ _ i more u.comes z (e ∙ turned) (left_by ∙ h)

    module _ (next step : Float) (is : t ≡ Accepted next step) where
      -- how the loop came to y then
      abbrev then : Bool → LmLoopResult
      then converged =
          record { iterations = i + 1; converged = converged; lambda = how.lambda ⊘ o.lambda_down; last_step_norm = step; prev_chi2 = next }

      pub accepted_on : lt step o.tol_rad ≡ false → length y ≡ length s → length w' ≡ length w → Left l y w'
          → Looping l o s₀ y w' (i + 1) (then how.converged)
      accepted_on h = goes (then how.converged) (rw (is, h, u.turns) refl) (rw is h) refl u.not_yet

      pub accepted_ends : lt step o.tol_rad ≡ true → held y (then true) ≡ lm_loop (run_from l) o s₀
      accepted_ends h = ends _ (rw (is, h, u.turns) refl) (rw is h)

    module _ (raised : Float) (is : t ≡ Rejected raised) where
      abbrev damped : LmLoopResult
      damped = record {
        iterations = i + 1;
        converged = how.converged;
        lambda = raised;
        last_step_norm = how.last_step_norm;
        prev_chi2 = how.prev_chi2;
      }

      pub rejected_on : lt lambda_limit raised ≡ false → length y ≡ length s → length w' ≡ length w → Left l y w' → Looping l o s₀ y w' (i + 1) damped
      rejected_on h = goes damped (rw (is, u.turns) refl) (rw is h) refl u.not_yet

      pub rejected_ends : lt lambda_limit raised ≡ true → held y damped ≡ lm_loop (run_from l) o s₀
      rejected_ends h = ends _ (rw (is, u.turns) refl) (rw is h)

-- ---- the last trial, whose proposal is given, and the residuals ys that come back after it

module _ {l : RunInputs} {k : Float} {s w set : List Float} {last : Float} {a : SolveOutcome} (c : Counted l) (p : Proposed l k #0 s w set last a)
    (o : IterOptions) (chi2 : Float) (ek : k ≡ huber_from (count_of l) (length l.free) o chi2) where
  pub last_kept : (s' : List Float) → le last chi2 ≡ true → s' ≡ take (length s) set
      → (s' ≡ last_set (run_from l) o chi2 s) × (last ≡ last_chi2 (run_from l) o chi2 s)
  unfolding last_set last_chi2
  last_kept s' h e = (rw (← next-is p o chi2 ek, h) (e ∙ trial-is p o chi2 ek), rw (← next-is p o chi2 ek, h) refl)

  pub last_not : le last chi2 ≡ false → (s ≡ last_set (run_from l) o chi2 s) × (chi2 ≡ last_chi2 (run_from l) o chi2 s)
  unfolding last_set last_chi2
  last_not h = (rw (← next-is p o chi2 ek, h) refl, rw (← next-is p o chi2 ek, h) refl)

  pub tried_last : (s' ys : List Float) (least : Float) → (s' ≡ last_set (run_from l) o chi2 s) × (least ≡ last_chi2 (run_from l) o chi2 s)
      → Renewed w ys (8 * count_of l)
      → residuals_in l ys ≡ zip_with (sub binary64) (b_in l (take (8 * count_of l) w)) (product (2 * count_of l) (length l.free) (at a.x)
      (extracted l.free (weighed_at k (sky_in l (take (8 * count_of l) w)) l.settings (sights_at l.pier l.sheets l.used) l.names)))
      → LastTried l o chi2 s (renewed w ys (8 * count_of l)) s' least a
  unfolding free_residuals
  tried_last s' ys least e r q =
      let n = count_of l in
      let b : b_in l (take (8 * n) w) ≡ weighed_residuals (run_from l) k s = part-take w (4 * n) (2 * n) (8 * n) (omega arith) r.room ∙ p.b in
      let sky : sky_in l (take (8 * n) w) ≡ sky_residuals (run_from l) s = part-take w (6 * n) (2 * n) (8 * n) (omega arith) r.room ∙ p.sky in
      let is : residuals_in l ys ≡ free_residuals (run_from l) o chi2 s =
      q ∙ rw (b, sky, weighed_are l k (sky_residuals (run_from l) s), rows_are l, x_is p o chi2 ek, k-is p o chi2 ek) refl in
      record {
        kept = e.0;
        least_is = e.1;
        solution = solved_front c r a (omega arith) ∙ solution-is p o chi2 ek;
        left = left_front c r _ (omega arith) is;
      }
