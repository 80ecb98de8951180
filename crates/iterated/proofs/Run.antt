-- The parts of the fit of a run: what the loop, the last trial and the last steps write, where fronts of the lent buffers are lent one after the other.
-- Assumes nothing.
use Prim.Native.Nat.{ℕ, ◌+◌, ◌*◌, ◌≤◌}
use mathlib.Core.Path.{◌≡◌, refl, ap, ◌∙◌, subst}
use mathlib.Core.Bool.{Bool, true, false, cond}
use mathlib.Core.List.{List, ◌++◌, zip_with}
use lib.ListN.{length, take, drop, replicate}
use lib.Ieee.{Float, binary64, sub, le}
use Rattle.float.specs.Float.{#0}
use Rattle.linalg.specs.declared.SolveOutcome.{SolveOutcome}
use Rattle.linalg.specs.Linalg.{leverage_of}
use Rattle.std.specs.Prelude.{Ok}
use Rattle.solver.specs.declared.FitResult.{FitResult}
use Rattle.solver.specs.declared.IterOptions.{IterOptions}
use Rattle.solver.specs.declared.SigmaBy.{SigmaBy}
use Rattle.solver.specs.Call.{buffers}
use Rattle.best.specs.ChiSquare.{chi}
use Rattle.design.specs.Design.{Run, RunInputs, run_from, scattered}
use Rattle.design.specs.Counted.{Counted}
use Rattle.design.proofs.Runs.{count_is}
use Rattle.stats.specs.declared.Sky.{Sky}
use Rattle.stats.specs.Stats.{degrees, sum_sq_sky, sky_of_sum, sky_from, divisor, variance, sigma_at}
use Rattle.outcome.specs.Outcome.{diagnostic_from, diagnostic_numbers, answer_of, outcome}
use Rattle.outcome.specs.Scratch.{count_of, height_in, residuals_in, columns_in, solved_in, Fits}
use Rattle.outcome.proofs.Front.{renewed, Renewed, front_again, front_count, front_rest}
use Rattle.outcome.proofs.Laws.{InOrder, damped_in_order, finishes}
use Rattle.lm_system.specs.System.{residuals_under, sky_residuals, chi2_at, lm_step}
use Rattle.iterated.specs.declared.LmLoopResult.{LmLoopResult}
use Rattle.iterated.specs.Iterated.{proposal, Report, lm_loop, last_step, last_set, last_chi2, free_residuals, reported, fitted_run, LastTried}
use Rattle.iterated.proofs.Best.{known_end}

-- ---- the chi-square of a set, and what it says of the set on the sky

-- that of the set that is kept last, where chi2 is that of s
least_at : (r : Run) (o : IterOptions) (chi2 : Float) (s : List Float) → chi2 ≡ chi2_at r s → last_chi2 r o chi2 s ≡ chi2_at r (last_set r o chi2 s)
unfolding last_chi2 last_set
least_at r o chi2 s e = go (le (chi2_at r (proposal r o chi2 #0 s)) chi2)
  where
    go : (b : Bool) → cond b (chi2_at r (proposal r o chi2 #0 s)) chi2 ≡ chi2_at r (cond b (proposal r o chi2 #0 s) s)
    go true = refl
    go false = e

pub sky_is : (l : RunInputs) (s : List Float) → sky_of_sum (count_of l) (length l.free) (chi2_at (run_from l) s)
    ≡ sky_from (run_from l).stars (length l.free) (residuals_under (run_from l) s)
unfolding sky_from sum_sq_sky chi2_at chi sky_residuals
sky_is l s = rw (count_is l)

pub last_in_order : (l : RunInputs) (o : IterOptions) (chi2 : Float) (s : List Float) → InOrder (length l.free) (last_step (run_from l) o chi2 s).outcome
unfolding lm_step
last_in_order l o chi2 s = damped_in_order _ _ (length l.free) _ _ _ _

-- ---- what is written: the start into the front of `out`, ys, then the loop's set, zs, and the last set; scratch comes back from both as v and w

pub record Written (l : RunInputs) (need : ℕ) (start out ys zs set scratch v w : List Float) : Type 0 where
  pub counted : Counted l
  pub room : 8 * count_of l + l.m * height_in l ≤ need
  pub begun : Renewed out ys l.m
  pub begins : ys ≡ start
  pub looped : Renewed (renewed out ys l.m) zs l.m
  pub kept : Renewed (renewed (renewed out ys l.m) zs l.m) set l.m
  pub worked : Renewed scratch v need
  pub ended : Renewed (renewed scratch v need) w need

-- what the loop came to, and the last trial from there
pub record Searched (l : RunInputs) (o : IterOptions) (start set w : List Float) (how : LmLoopResult) (least : Float) (a : SolveOutcome) : Type 0 where
  pub came : how ≡ (lm_loop (run_from l) o start).how
  pub last : LastTried l o (lm_loop (run_from l) o start).how.prev_chi2 (lm_loop (run_from l) o start).set w set least a

module _ {l : RunInputs} {need : ℕ} {start out ys zs set scratch v w : List Float} (t : Written l need start out ys zs set scratch v w) where
  -- the buffers as they are then
  abbrev looped-out : List Float
  looped-out = renewed (renewed out ys l.m) zs l.m

  abbrev last-scratch : List Float
  last-scratch = renewed (renewed scratch v need) w need

  pub last_fits : Fits l (take need last-scratch)
  last_fits = record { counted = t.counted; room = rw (front_count t.ended) t.room }

  out-is : renewed looped-out set l.m ≡ set ++ drop l.m out
  out-is = ap (λ (u : List Float). set ++ u) (front_rest t.looped ∙ front_rest t.begun)

  scratch-is : (d : List Float) → d ≡ replicate (length (take need last-scratch)) #0 → renewed last-scratch d need ≡ replicate need #0 ++ drop need scratch
  scratch-is d e = rw (e, front_count t.ended, front_rest t.ended, front_rest t.worked) refl

  pub searched : (o : IterOptions) (how : LmLoopResult) (least : Float) (a : SolveOutcome)
      → record { set = zs; how = how } ≡ lm_loop (run_from l) o (take l.m (renewed out ys l.m))
      → LastTried l o how.prev_chi2 (take l.m looped-out) w set least a
      → Searched l o start set w how least a
  searched o how least a e q =
      let loop : record { set = zs; how = how } ≡ lm_loop (run_from l) o start = rw (front_again t.begun, t.begins) at e in
      let last : LastTried l o how.prev_chi2 zs w set least a = rw (front_again t.looped) at q in
      record {
        came = ap (λ (p : Report). p.how) loop;
        last = subst (λ (p : Report). LastTried l o p.how.prev_chi2 p.set w set least a) loop last;
      }

  module _ {o : IterOptions} {how : LmLoopResult} {least : Float} {a : SolveOutcome} (q : Searched l o start set w how least a) where
    abbrev loop : Report
    loop = lm_loop (run_from l) o start

    sky-of : (sky : Sky) → sky ≡ sky_of_sum (count_of l) (length l.free) least
        → sky ≡ sky_from (run_from l).stars (length l.free) (residuals_under (run_from l) (last_set (run_from l) o loop.how.prev_chi2 loop.set))
    sky-of sky e = e ∙ rw (q.last.least_is ∙ least_at (run_from l) o _ _ (known_end (run_from l) o start)) (sky_is l _)

    -- what the last trial left, as it is lent last
    pub solved_last : solved_in l (take need last-scratch) a ≡ last_step (run_from l) o loop.how.prev_chi2 loop.set
    solved_last = rw (front_again t.ended) q.last.solution

    left-last : residuals_in l (take need last-scratch) ≡ free_residuals (run_from l) o loop.how.prev_chi2 loop.set
    left-last = rw (front_again t.ended) q.last.left

    pub run-fitted : (by : SigmaBy) (change sigma diagnostics ch sigma' diagnostics' d : List Float) (sky : Sky) (answer : FitResult)
        → ch ≡ zip_with (sub binary64) (take l.m (renewed looped-out set l.m)) start → sky ≡ sky_of_sum (count_of l) (length l.free) least
        → answer ≡ answer_of (length l.free) l.settings a sky (reported how)
        → sigma'
        ≡ scattered l.free (sigma_at (variance (residuals_in l (take need last-scratch)) (divisor by (count_of l) a.rank)) a.cov_diag)
        (replicate l.m #0)
        ++ drop l.m sigma
        → diagnostics'
        ≡ diagnostic_numbers (count_of l) (diagnostic_from (degrees (2 * count_of l) a.rank) (residuals_in l (take need last-scratch))
        (leverage_of (height_in l) (columns_in l (take need last-scratch)) (take (length l.free) a.order) a.inv_s))
        ++ drop (3 * count_of l) diagnostics
        → d ≡ replicate (length (take need last-scratch)) #0
        → outcome (Ok answer) (buffers (renewed looped-out set l.m) (renewed change ch l.m) sigma' diagnostics' (renewed last-scratch d need))
        ≡ fitted_run (run_from l) by need start o (buffers out change sigma diagnostics scratch)
    unfolding fitted_run
    run-fitted by change sigma diagnostics ch sigma' diagnostics' d sky answer ec ek ea ei ed ez =
        let is = q.last.kept in
        let moved : ch ≡ zip_with (sub binary64) set start = rw (front_again t.kept) at ec in
        finishes l by need (buffers out change sigma diagnostics scratch) (take need last-scratch) _ _ _ _ _ _ sigma' diagnostics' _ a _ sky _ answer
        solved_last left-last (sky-of sky ek) (rw (out-is, is) refl) (rw (moved, is) refl) (rw q.came at ea) ei ed (scratch-is d ez)
