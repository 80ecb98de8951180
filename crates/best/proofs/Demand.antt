-- Demand 3: the exact chi-square of a loop's answer, as a fraction, is at most 1 + 2 ^ -41 times that of every set that the loop tries.
-- Assumes nothing.
use mathlib.Core.Path.{◌≡◌}
use Prim.Native.Nat.{ℕ, ◌≤◌}
use mathlib.Core.Bool.{not}
use mathlib.Core.List.{Memᴰ}
use lib.Dec.{T}
use lib.Ieee.{Float, binary64, lt, fits}
use Rattle.best.specs.ChiSquare.{chi, exact_sum, AllTame, AllTameValues, AtMost}
use Rattle.best.specs.Trials.{Trials, answer, tried, Keeps}
use Rattle.best.proofs.Fraction.{fraction_of_not_lt}
use Rattle.best.proofs.Best.{none_below, answer-best}

-- h a and d a are the residuals under the set a, each made by an operation, and the score is the computed chi-square
module _ {L A : Type 0} (p : Trials L A) (Ok : L → Type 0) (rule : Keeps p Ok) (h d : A → ℕ → Float) (n : ℕ) (few : n ≤ 1024)
    (is : (a : A) → p.score a ≡ chi (h a) (d a) n) (made : (a : A) (i : ℕ) → T (fits binary64 (h a i)) × T (fits binary64 (d a i))) where
  fine : (a : A) → AllTame (h a) (d a) n → AllTameValues (h a) (d a) n
  fine a t i l = (((made a i).0, (t i l).0), ((made a i).1, (t i l).1))

  computed : (k : ℕ) (s : L) → Ok s → (x : A) → Memᴰ x (tried p k s)
      → T (not (lt (chi (h x) (d x) n) (chi (h (answer p k s)) (d (answer p k s)) n)))
  computed k s ok x m =
      let r = answer p k s in
      let scores : T (not (lt (p.score x) (p.score r))) =
      none_below p.score (p.score r) x (tried p k s) (answer-best p Ok rule k s ok) m in
      rw (is x, is r) at scores

  pub demand3 : (k : ℕ) (s : L) → Ok s → (x : A) → Memᴰ x (tried p k s)
      → AllTame (h x) (d x) n → AllTame (h (answer p k s)) (d (answer p k s)) n
      → AtMost (exact_sum (h (answer p k s)) (d (answer p k s)) n) (exact_sum (h x) (d x) n)
  demand3 k s ok x m f g =
      let r = answer p k s in
      fraction_of_not_lt (h r) (d r) (h x) (d x) n few (fine r g) (fine x f) (computed k s ok x m)
