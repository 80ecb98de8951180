-- antt runs the definitions: worked values of chi-square, of what is tame, and of a loop of trials. Assumes nothing.
use mathlib.Core.Path.{◌≡◌, refl}
use Prim.Native.Nat.{ℕ, ◌+◌, ◌*◌, ◌^◌}
use mathlib.Core.Bool.{true, false, not}
use mathlib.Core.List.{[], ◌∷◌}
use lib.IntN.{pos, negsuc}
use lib.Dec.{T}
use lib.Ieee.{Float, fin, binary64, add, sub, mul, le, of_int, of_bits}
use Rattle.float.specs.Float.{◌⊖◌, #1, #2}
use Rattle.sequence.specs.Sequence.{sum_to}
use Rattle.best.specs.ChiSquare.{chi, units_of, exact, exact_sum, tame}
use Rattle.best.specs.Trials.{Trials, after, proposed, tried, answer}

-- ---- residuals of 3 and -4 at each star

abbrev three : ℕ → Float
three i = fin false 3 (pos 0)

abbrev four : ℕ → Float
four i = fin true 1 (pos 2)

one_star : chi three four 1 ≡ fin false 25 (pos 0)
unfolding chi sum_to add mul of_bits
one_star = refl

sixteen_stars : chi three four 16 ≡ fin false 25 (pos 4)
unfolding chi sum_to add mul of_bits
sixteen_stars = refl

exactly : exact three four 16 ≡ 400 * 2 ^ 2148
unfolding exact units_of
exactly = refl

as_a_fraction : exact_sum three four 16 ≡ record { over = 400; under = 1 }
unfolding exact_sum
as_a_fraction = refl

-- ---- 1 and 2 ^ -30: the small square is lost in the computed sum alone

abbrev one : ℕ → Float
one i = #1

abbrev small : ℕ → Float
small i = fin false 1 (negsuc 29)

lost : chi one small 1 ≡ #1
unfolding chi sum_to add mul of_bits
lost = refl

kept : exact one small 1 ≡ 2 ^ 2148 + 2 ^ 2088
unfolding exact units_of of_bits
kept = refl

-- ---- what is tame

tame-zero : T (tame (fin true 0 (pos 0)))
unfolding tame
tame-zero = tt

tame_edge : T (tame (fin true 1 (negsuc 399)))
unfolding tame
tame_edge = tt

not_tame : T (not (tame (fin true 1 (negsuc 400))))
unfolding tame
not_tame = tt

-- ---- a set is its own score; a turn proposes one less, and keeps it; the last trial is 2

abbrev down : Trials Float Float
down =
    record {
      score = λ x. x;
      set = λ x. x;
      propose = λ x. x ⊖ #1;
      turn = λ x. x ⊖ #1;
      ends = λ x. le x #1;
      last = λ x. #2;
    }

abbrev whole : ℕ → Float
whole n = of_int binary64 (pos n)

left_early : tried down 9 (whole 3) ≡ whole 3 ∷ whole 2 ∷ whole 1 ∷ whole 0 ∷ whole 2 ∷ []
unfolding tried proposed after sub le of_int of_bits
left_early = refl

kept-best : answer down 9 (whole 3) ≡ whole 0
unfolding answer after sub le of_int of_bits
kept-best = refl

two-turns : answer down 2 (whole 5) ≡ #2
unfolding answer after sub le of_int of_bits
two-turns = refl
