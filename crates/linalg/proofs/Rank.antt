-- For the reader: where fit_tol is at most 0 and every singular value is above 0, the rank is the number of columns. Assumes nothing.
use mathlib.Core.Path.{◌≡◌, refl}
use mathlib.Core.Bool.{true, false}
use mathlib.Core.List.{List}
use Prim.Native.Nat.{ℕ, zero, suc, ◌<◌}
use native.Mathlib.Numerals.{add-one}
use native.Mathlib.Omega.{arith}
use lib.Dec.{T_not}
use lib.ListN.{get_or}
use lib.Ieee.{Float, lt, le}
use Rattle.float.specs.Float.{#0}
use Rattle.float.proofs.Order.{lt_le_all, lt_irrefl_all}
use Rattle.sequence.specs.Sequence.{at}
use Rattle.order.specs.Order.{ordered}
use Rattle.order.proofs.All.{all_get_d}
use Rattle.order.proofs.Sorted.{refuted, ordered-length, ordered_below}
use Rattle.linalg.proofs.Laws.{in_order_lem}
use Rattle.linalg.specs.Linalg.{value, threshold, rank_to, decomposed, answered, solved}

no_threshold : (fitTol sigmaMax : Float) → le fitTol #0 ≡ true → threshold fitTol sigmaMax ≡ #0
unfolding threshold
no_threshold fitTol sigmaMax e =
    let f : lt #0 fitTol ≡ false = refuted (lt #0 fitTol) (λ h. T_not (lt #0 #0) (lt_irrefl_all #0) (lt_le_all #0 fitTol #0 h (rw e tt))) in
    rw f

all_above : (n : ℕ) (t : Float) (s : List Float) (o : List ℕ) → ((i : ℕ) → i < n → lt t (value s o i) ≡ true) → rank_to n t s o ≡ n
unfolding rank_to
all_above zero t s o f = refl
all_above (suc n) t s o f = rw (f n (omega arith), all_above n t s o (λ i h. f i (omega arith))) (add-one n)

pub full_rank : (h rows m : ℕ) (w b : List Float) (fitTol : Float) → le fitTol #0 ≡ true
    → ((j : ℕ) → j < m → lt #0 (at (decomposed h rows m w).values j) ≡ true)
    → (solved h rows m w b fitTol).outcome.rank ≡ m
unfolding solved answered
full_rank h rows m w b fitTol e positive =
    let s = (decomposed h rows m w).values in
    let o = ordered m s in
    rw (in_order_lem m s, ordered-length m s, no_threshold fitTol (value s o 0) e)
    (all_above m #0 s o (λ i l. positive (get_or o i 0) (all_get_d (λ x. x < m) o i (ordered_below m s) (rw (ordered-length m s) l))))
