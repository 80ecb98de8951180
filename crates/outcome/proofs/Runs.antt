-- What the fits count on in scratch, and that weighed columns and sums over the lent lists are those of the run. Assumes nothing.
use Prim.Native.Nat.{ℕ, ◌+◌, ◌*◌, ◌≤◌}
use native.Mathlib.Omega.{arith}
use mathlib.Core.Path.{◌≡◌, refl, sym, ap}
use mathlib.Core.List.{List, [], ◌++◌, map}
use lib.ListN.{length, take, drop}
use lib.Seq.{length-take-le, take_at}
use lib.Ieee.{Float, lt, of_bits}
use Rattle.limits.specs.Limits.{max_terms}
use Rattle.float.specs.Float.{#0}
use Rattle.solver.specs.Call.{FitInputs}
use Rattle.sequence.specs.Sequence.{Only}
use Rattle.design.specs.Design.{RunInputs, run_inputs, run_from, up_to, collect_indices, run_inputs_of, sights_at, sky_of, weighing, weighed_at, stacked}
use Rattle.design.specs.Counted.{Counted}
use Rattle.design.specs.Matrix.{matrix_of, FilledUpTo, HasRoom}
use Rattle.design.proofs.Indices.{up_to-length}
use Rattle.design.proofs.Matrix.{design_stacked}
use Rattle.design.proofs.Runs.{with_terms, count_is, sky_columns_are, seen, named, free_room}
use Rattle.stats.specs.declared.Sky.{Sky}
use Rattle.stats.specs.Stats.{sum_sq_sky, sky_of_sum, sky_from}
use Rattle.stats.proofs.Laws.{sum_sky_same}
use Rattle.outcome.specs.Scratch.{count_of, height_in, sky_in, columns_in, Fits}

-- the front of scratch, for a run that has its number of terms from the set
pub fits_front : (l : RunInputs) (m need : ℕ) (w : List Float) → m ≡ l.m → Counted l → 8 * count_of l + l.m * height_in l ≤ need → need ≤ length w
    → Fits (with_terms l m) (take need w)
fits_front l m need w e c room fits = rw e (record { counted = c; room = rw (length-take-le need w fits) room })

-- room for the columns of the free terms, which are at most 32
pub fits_free : (l : RunInputs) (w : List Float) → Fits l w → (length l.free ≤ max_terms) × (8 * count_of l + length l.free * height_in l ≤ length w)
fits_free l w f =
    let c = f.counted in
    (omega (arith, c.free_few, c.terms), omega (arith, free_room l c (height_in l), f.room))

-- of a list v as long: what `build_design_matrix` requires, and what it leaves as the solver reads it
module _ (l : RunInputs) (w v : List Float) (f : Fits l w) (e : length v ≡ length w) where
  pub columns_ready : HasRoom l.names l.free l.pier l.sheets l.used (8 * count_of l) (height_in l) v
  columns_ready =
      let c = f.counted in
      record { named = named l c; seen = seen l c; rows_fit = omega arith; behind = omega arith; columns_fit = rw e (fits_free l w f).1 }

  pub columns_built : (k : Float) (v' : List Float)
      → FilledUpTo (matrix_of l.names l.free l.pier l.sheets l.used l.settings k v) (8 * count_of l) (height_in l) (length l.free) v v'
      → (columns_in l v'
      ≡ stacked (height_in l) (map (weighed_at k (sky_in l v) l.settings (sights_at l.pier l.sheets l.used) l.names) l.free))
      × Only (8 * count_of l) (length l.free * height_in l) v v'
  columns_built k v' p =
      (design_stacked l.names l.free l.pier l.sheets l.used l.settings k (8 * count_of l) (height_in l) v v' columns_ready p, p.outside)

module _ (l : RunInputs) where
  pub weighed_are : (k : Float) (b : List Float)
      → weighed_at k b l.settings (sights_at l.pier l.sheets l.used) l.names ≡ (λ (j : ℕ). weighing k b (sky_of (run_from l) j))
  weighed_are k b = ap {B = ℕ → List Float} (λ (a : ℕ → List Float) (j : ℕ). weighing k b (a j)) (sky_columns_are l)

  -- where k is 0 nothing is weighed
  pub unweighed_are : (b : List Float) → weighed_at #0 b l.settings (sights_at l.pier l.sheets l.used) l.names ≡ sky_of (run_from l)
  unfolding weighing lt of_bits
  unweighed_are b = sky_columns_are l

  -- what residuals r come to on the sky, by their sum
  pub sky_is : (r : List Float) (sum : Float) (sky : Sky) → sum ≡ sum_sq_sky (sights_at [] l.sheets l.used) r
      → sky ≡ sky_of_sum (count_of l) (length l.free) sum → sky ≡ sky_from (run_from l).stars (length l.free) r
  unfolding sky_from
  sky_is r sum sky e q = rw (q, e, sum_sky_same l.dh l.dd l.pier l.sheets l.used r, count_is l) refl

-- a call's run, where the indices of its free terms and of its stars begin longer lists ts and us
pub listed_is : (l : FitInputs) (k : ℕ) (ts d us e : List ℕ) → k ≡ length (collect_indices l.fixed) → ts ≡ collect_indices l.fixed ++ drop k d
    → us ≡ up_to (length l.dh) ++ drop (length l.dh) e
    → run_inputs (length l.coefficients) l.names (take k ts) l.dh l.dd l.pier l.sheets (take (length l.dh) us) l.settings ≡ run_inputs_of l
listed_is l k ts d us e count is all =
    let n = length l.dh in
    let terms : take k ts ≡ collect_indices l.fixed = rw is (take_at (collect_indices l.fixed) (drop k d) k (sym count)) in
    let stars : take n us ≡ up_to n = rw all (take_at (up_to n) (drop n e) n (up_to-length n)) in
    rw (terms, stars)
