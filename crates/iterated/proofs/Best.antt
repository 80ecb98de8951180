-- Demand 3 follows from the definitions: the set that the search comes to is the best of the sets that it tries, and an accepted call returns
-- that set. Assumes nothing.
use Prim.Native.Nat.{ℕ, zero, suc, ◌+◌, ◌*◌, ◌≤◌, ◌<◌}
use native.Mathlib.Nat.{zero-add}
use native.Mathlib.Omega.{arith}
use mathlib.Core.Path.{◌≡◌, refl, sym, ap, ◌∙◌, subst}
use mathlib.Core.Bool.{Bool, true, false, false≢true, cond}
use mathlib.Core.List.{List, [], ◌∷◌, zip_with, Memᴰ}
use lib.Dec.{T}
use lib.ListN.{length, take, get_or, set, length-set}
use lib.Seq.{take_at, get_or-set_other}
use lib.Ieee.{Float, nan, binary64, fits, sub, lt, le}
use lib.Ieee.Fits.{nan-fits, mul-fits, sub-fits}
use Rattle.limits.specs.Limits.{max_stars}
use Rattle.float.specs.Float.{◌⊕◌}
use Rattle.sequence.specs.Sequence.{at, each}
use Rattle.sequence.proofs.Fills.{each_last}
use Rattle.best.specs.ChiSquare.{chi, AtMost}
use Rattle.best.specs.Trials.{proposed, answer, Keeps}
use Rattle.best.proofs.Best.{answer-listed}
use Rattle.best.proofs.Counts.{after_holds, few_proposed, counts, tried_length}
use Rattle.best.proofs.Demand.{demand3}
use Rattle.std.specs.Prelude.{Result, Ok, Err}
use Rattle.refusal.specs.declared.Refusal.{Refusal}
use Rattle.solver.specs.declared.FitResult.{FitResult}
use Rattle.solver.specs.declared.IterOptions.{IterOptions}
use Rattle.solver.specs.declared.SigmaBy.{SigmaBy}
use Rattle.solver.specs.Call.{FitInputs, Buffers}
use Rattle.design.specs.Design.{Star, Run, run_of, run_inputs_of, collect_indices, is_free, sky_rows}
use Rattle.design.proofs.Indices.{up_to-length, indices_free}
use Rattle.design.proofs.Runs.{count_is}
use Rattle.outcome.specs.Outcome.{Outcome, outcome, finished}
use Rattle.lm_system.specs.System.{residuals_under, sky_residuals, hour, dec, chi2_at, moved}
use Rattle.iterated.specs.Iterated.{Tried, trial_of, Report, answered, trials, begin, lm_loop, last_set, fitted, fitted_run}
use Rattle.iterated.specs.Demand3.{tried_sets, exact_sum_at, TameAt, BestOfTried, Demand3}

-- ---- each residual is what an operation made

abbrev Fit64 : List Float → Type 0
Fit64 xs = (k : ℕ) → T (fits binary64 (at xs k))

differences_fit : (xs ys : List Float) → Fit64 (zip_with (sub binary64) xs ys)
unfolding zip_with
differences_fit [] ys k = nan-fits binary64
differences_fit (x ∷ xs) [] k = nan-fits binary64
differences_fit (x ∷ xs) (y ∷ ys) zero = sub-fits binary64 x y
differences_fit (x ∷ xs) (y ∷ ys) (suc k) = differences_fit xs ys k

sky_fit : (ss : List Star) (b : List Float) → Fit64 b → Fit64 (sky_rows ss b)
unfolding sky_rows
sky_fit [] b p k = nan-fits binary64
sky_fit (s ∷ ss) [] p k = nan-fits binary64
sky_fit (s ∷ ss) (h ∷ []) p k = nan-fits binary64
sky_fit (s ∷ ss) (h ∷ d ∷ b) p zero = mul-fits binary64 _ _
sky_fit (s ∷ ss) (h ∷ d ∷ b) p (suc zero) = p 1
sky_fit (s ∷ ss) (h ∷ d ∷ b) p (suc (suc k)) = sky_fit ss b (λ j. p (suc (suc j))) k

made : (r : Run) (s : List Float) (i : ℕ) → T (fits binary64 (hour r s i)) × T (fits binary64 (dec r s i))
unfolding residuals_under sky_residuals
made r s i = (sky_fit r.stars _ (differences_fit _ _) (2 * i), sky_fit r.stars _ (differences_fit _ _) (2 * i + 1))

-- ---- what holds of a set after each free term has moved

module _ (P : List Float → Type 0) (free : List ℕ) (on : (i : ℕ) → i < length free → (t : List Float) (v : Float) → P t → P (set t (get_or free i 0) v)) where
  each_keeps : (x s : List Float) → P s → (n : ℕ) → n ≤ length free → P (each n 0 (λ i t. set t (get_or free i 0) (at t (get_or free i 0) ⊕ at x i)) s)
  unfolding each
  each_keeps x s p zero h = p
  each_keeps x s p (suc n) h =
      rw (each_last n (λ i t. set t (get_or free i 0) (at t (get_or free i 0) ⊕ at x i)) s) (on n (omega arith) _ _ (each_keeps x s p n (omega arith)))

  pub moved_keeps : (x s : List Float) → P s → P (moved free x s)
  unfolding moved
  moved_keeps x s p = each_keeps x s p (length free) (omega arith)

pub moved_length : (free : List ℕ) (x s : List Float) → length (moved free x s) ≡ length s
moved_length free x s = moved_keeps (λ t. length t ≡ length s) free (λ i h t v e. length-set t (get_or free i 0) v ∙ e) x s refl

-- ---- the search in a run from a start

module _ (r : Run) (o : IterOptions) (start : List Float) where
  abbrev loop : Report
  loop = lm_loop r o start

  -- the chi-square that the loop holds is that of the set in hand
  abbrev Known : Report → Type 0
  Known p = p.how.prev_chi2 ≡ chi2_at r p.set

  -- a turn, by what its test says
  abbrev below : Report → Bool
  below p = lt (chi2_at r ((trials r o).propose p)) p.how.prev_chi2

  turn_by : (P : Report → Type 0) (p : Report) (b : Bool) (u v : Tried) → P (answered o p u.answer u.set) → P (answered o p v.answer v.set)
      → P (answered o p (cond b u v).answer (cond b u v).set)
  turn_by P p true u v h k = h
  turn_by P p false u v h k = k

  known_on : (p : Report) → Known p → Known ((trials r o).turn p)
  unfolding trial_of
  known_on p h = turn_by Known p (below p) _ _ refl h

  set-by : (p : Report) (b : Bool) (u v : Tried)
      → (answered o p (cond b u v).answer (cond b u v).set).set ≡ cond b (answered o p u.answer u.set).set (answered o p v.answer v.set).set
  set-by p true u v = refl
  set-by p false u v = refl

  keeps : (p : Report) → Known p → ((trials r o).turn p).set ≡ cond (lt (chi2_at r ((trials r o).propose p)) (chi2_at r p.set)) ((trials r o).propose p) p.set
  unfolding trial_of
  keeps p h = set-by p (below p) _ _ ∙ rw h

  rule : Keeps (trials r o) Known
  rule = record { on = known_on; keeps = keeps }

  counted-on : (p : Report) → ((trials r o).turn p).how.iterations ≡ p.how.iterations + 1
  unfolding trial_of
  counted-on p = turn_by (λ (t : Report). t.how.iterations ≡ p.how.iterations + 1) p (below p) _ _ refl refl

  pub known_end : Known loop
  unfolding lm_loop
  known_end = after_holds (trials r o) Known known_on o.max_iter (begin r o start) refl

  -- as many turns as sets proposed
  count-end : loop.how.iterations ≡ length (proposed (trials r o) o.max_iter (begin r o start))
  unfolding lm_loop
  count-end =
      counts (trials r o) (λ p. p.how.iterations) counted-on o.max_iter (begin r o start)
      ∙ zero-add (length (proposed (trials r o) o.max_iter (begin r o start)))

  -- the set that the search comes to
  abbrev pub final : List Float
  final = last_set r o loop.how.prev_chi2 loop.set

  final-is : final ≡ answer (trials r o) o.max_iter (begin r o start)
  unfolding last_set lm_loop answer
  final-is = ap (λ (c : Float). cond (le (chi2_at r ((trials r o).last loop)) c) ((trials r o).last loop) loop.set) known_end

  -- what each step keeps
  module _ (P : List Float → Type 0) (on : (x s : List Float) → P s → P (moved r.free x s)) (begins : P start) where
    turn-keeps : (p : Report) → P p.set → P ((trials r o).turn p).set
    unfolding trial_of
    turn-keeps p h = turn_by (λ (t : Report). P t.set) p (below p) _ _ (on _ p.set h) h

    pub loop_keeps : P loop.set
    unfolding lm_loop
    loop_keeps = after_holds (trials r o) (λ (p : Report). P p.set) turn-keeps o.max_iter (begin r o start) begins

    either : (b : Bool) (s t : List Float) → P s → P t → P (cond b s t)
    either true s t h k = h
    either false s t h k = k

    pub final_keeps : P final
    unfolding last_set
    final_keeps = either (le (chi2_at r ((trials r o).last loop)) loop.how.prev_chi2) _ _ (on _ loop.set loop_keeps) loop_keeps

  is-chi : (s : List Float) → (trials r o).score s ≡ chi (hour r s) (dec r s) (length r.stars)
  unfolding chi2_at
  is-chi s = refl

  pub final_length : length final ≡ length start
  final_length = final_keeps (λ s. length s ≡ length start) (λ x s e. moved_length r.free x s ∙ e) refl

-- ---- of a call

module _ (l : FitInputs) (o : IterOptions) where
  -- a fixed term's place is in no list of free terms
  other : (j i : ℕ) → is_free l.fixed j ≡ false → i < length (collect_indices l.fixed) → j ≡ get_or (collect_indices l.fixed) i 0 → ⊥
  other j i e h q = false≢true (sym e ∙ rw (← q) at (indices_free l.fixed i h))

  final-kept : (j : ℕ) → is_free l.fixed j ≡ false → at (final (run_of l) o l.coefficients) j ≡ at l.coefficients j
  final-kept j e =
      final_keeps (run_of l) o l.coefficients (λ s. at s j ≡ at l.coefficients j)
      (moved_keeps (λ s. at s j ≡ at l.coefficients j) (collect_indices l.fixed)
      (λ i h t v q. get_or-set_other t (get_or (collect_indices l.fixed) i 0) j v nan (other j i e h) ∙ q))
      refl

pub best_of_tried : (l : FitInputs) (o : IterOptions) → length l.dh ≤ max_stars
    → BestOfTried l o (final (run_of l) o l.coefficients) (lm_loop (run_of l) o l.coefficients).how.iterations
best_of_tried l o few =
    let r = run_of l in
    let p = trials r o in
    let k = o.max_iter in
    let s = begin r o l.coefficients in
    let is = sym (final-is r o l.coefficients) in
    let stars : length r.stars ≤ max_stars = omega (arith, count_is (run_inputs_of l), up_to-length (length l.dh)) in
    record {
      listed = subst (λ (z : List Float). Memᴰ z (tried_sets l o)) is (answer-listed p (Known r o l.coefficients) (rule r o l.coefficients) k s refl);
      best = λ x m f. subst (λ (z : List Float). TameAt r z → AtMost (exact_sum_at r z) (exact_sum_at r x)) is
          (demand3 p (Known r o l.coefficients) (rule r o l.coefficients) (hour r) (dec r) (length r.stars) stars
          (is-chi r o l.coefficients) (made r) k s refl x m f);
      kept = λ j h e. final-kept l o j e;
      counted = omega (arith, count-end r o l.coefficients, tried_length p k s);
      limited = omega (arith, count-end r o l.coefficients, few_proposed p k s);
    }

-- ---- an accepted call: its answer, and what the buffers hold at its end

iterations_of : Result FitResult Refusal → ℕ
iterations_of (Ok r) = r.iter_report.iterations
iterations_of (Err why) = 0

pub fitted_demand : (l : FitInputs) (by : SigmaBy) (o : IterOptions) (b left : Buffers) (r : FitResult) → length l.dh ≤ max_stars
    → outcome (Ok r) left ≡ fitted l by o b
    → Demand3 l o (Ok r) left.coefficients
unfolding fitted_run finished iterations_of
fitted_demand l by o b left r few e =
    let m = length l.coefficients in
    let s = final (run_of l) o l.coefficients in
    let out : take m left.coefficients ≡ s =
    ap (λ (z : Outcome). take m z.left.coefficients) e ∙ take_at s _ m (final_length (run_of l) o l.coefficients) in
    let count : r.iter_report.iterations ≡ (lm_loop (run_of l) o l.coefficients).how.iterations = ap (λ (z : Outcome). iterations_of z.answer) e in
    rw (out, count) (best_of_tried l o few)
