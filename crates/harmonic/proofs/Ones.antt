-- A harmonic that is read has the value 1 on a sheet of ones, or 0 where a sine of A, E or Z is among its components. Assumes nothing.
use Prim.Native.Nat.{ℕ, ◌+◌, ◌-◌, ◌≤◌, ◌<◌}
use Prim.Native.Char.{code}
use native.Mathlib.Omega.{arith}
use mathlib.Core.Path.{◌≡◌, refl}
use mathlib.Core.Logic.{◌⊎◌, inl, inr}
use mathlib.Core.Bool.{Bool, true, false, not, ◌||◌, cond}
use mathlib.Core.List.{List, [], ◌∷◌}
use Rattle.std.specs.Prelude.{Option, None, Some, fold}
use borrow.Author.Tests.{leb-true}
use lib.Dec.{eqb, ltb, leb}
use lib.ListN.{length, get_or, drop, replicate, get_or-replicate}
use lib.Seq.{take_at}
use lib.Ieee.{Float, nan, of_bits, mul}
use Rattle.float.specs.Float.{◌⊗◌, #0, #1}
use Rattle.sequence.specs.Sequence.{at}
use Rattle.sequence.proofs.Tests.{right_of}
use Rattle.observation.specs.Sheet.{place_h, place_dec}
use Rattle.harmonic.specs.Harmonic.{blank_component, is_digit, func_of, coord_of, made, component, join, components, result_of, parsed}
use Rattle.harmonic.specs.Harmonic.{parse_harmonic}
use Rattle.harmonic.specs.Value.{trig_at, trig_value, value_product, evaluate}
use Rattle.harmonic.specs.declared.TrigFunc.{TrigFunc}
use Rattle.harmonic.specs.declared.Coordinate.{Coordinate}
use Rattle.harmonic.specs.declared.ResultType.{ResultType}
use Rattle.harmonic.specs.declared.HarmonicComponent.{HarmonicComponent}
use Rattle.harmonic.specs.declared.Harmonic.{Harmonic}

abbrev pub ones : List Float
ones = replicate 37 #1

abbrev pub OneOrZero : Float → Type 0
OneOrZero x = (x ≡ #1) ⊎ (x ≡ #0)

times : {x y : Float} → OneOrZero x → OneOrZero y → OneOrZero (x ⊗ y)
unfolding of_bits mul
times (inl p) (inl q) = inl (rw (p, q))
times (inl p) (inr q) = inr (rw (p, q))
times (inr p) (inl q) = inr (rw (p, q))
times (inr p) (inr q) = inr (rw (p, q))

-- ---- a component with a frequency of one digit

one_at : (i : ℕ) → i < 37 → OneOrZero (at ones i)
one_at i h = inl (get_or-replicate 37 i #1 nan h)

trig_ones : (f : TrigFunc) (c : Coordinate) (k : ℕ) → k ≤ 9 → OneOrZero (trig_at ones f c k)
trig_ones TrigFunc.Sin Coordinate.H k h = one_at (place_h k) (omega arith)
trig_ones TrigFunc.Cos Coordinate.H k h = one_at (place_h k + 1) (omega arith)
trig_ones TrigFunc.Sin Coordinate.D k h = one_at (place_dec k) (omega arith)
trig_ones TrigFunc.Cos Coordinate.D k h = one_at (place_dec k + 1) (omega arith)
trig_ones TrigFunc.Sin Coordinate.A k h = inr refl
trig_ones TrigFunc.Cos Coordinate.A k h = inl refl
trig_ones TrigFunc.Sin Coordinate.E k h = inr refl
trig_ones TrigFunc.Cos Coordinate.E k h = inl refl
trig_ones TrigFunc.Sin Coordinate.Z k h = inr refl
trig_ones TrigFunc.Cos Coordinate.Z k h = inl refl

-- ---- the product goes on from 1 or 0 to 1 or 0 over the components of a text

abbrev Goes : Option (List HarmonicComponent) → Type 0
Goes None = Unit {0}
Goes (Some l) = (x : Float) → OneOrZero x → OneOrZero (fold (λ acc c. acc ⊗ trig_value ones c) x l)

module _ (f : TrigFunc) (c : Coordinate) (k : ℕ) (h : k ≤ 9) where
  joined : (t : Bool) (o : Option (List HarmonicComponent)) → Goes o
      → Goes (join (cond t None (Some (record { func = f; coord = c; frequency = k }))) o)
  joined true o g = tt
  joined false None g = tt
  joined false (Some l) g = λ x p. g _ (times p (trig_ones f c k h))

made_goes : (f : Option TrigFunc) (c : Option Coordinate) (k : ℕ) (o : Option (List HarmonicComponent)) → k ≤ 9 → Goes o → Goes (join (made f c k) o)
made_goes None c k o h g = tt
made_goes (Some f) None k o h g = tt
made_goes (Some f) (Some c) k o h g = joined f c k h (eqb k 0) o g

components_go : (s : List ℕ) → Goes (components s)
unfolding components
components_go [] = λ x p. p
components_go (f ∷ []) = tt
components_go (f ∷ c ∷ []) = made_goes (func_of f) (coord_of c) 1 (Some []) (omega arith) (λ x p. p)
components_go (f ∷ c ∷ d ∷ s) = by (is_digit d) refl (components_go s) (components_go (d ∷ s))
  where
    by : (t : Bool) → is_digit d ≡ t → Goes (components s) → Goes (components (d ∷ s))
        → Goes (cond t (join (component f c (d - code "0")) (components s)) (join (component f c 1) (components (d ∷ s))))
    by true e g later =
        let nine = leb-true d 57 (right_of (leb 48 d) (leb d 57) e) in
        made_goes (func_of f) (coord_of c) (d - code "0") (components s) (omega arith) g
    by false e g later = made_goes (func_of f) (coord_of c) 1 (components (d ∷ s)) (omega arith) later

-- ---- a whole name

abbrev pub ReadOnes : Option Harmonic → Type 0
ReadOnes None = Unit {0}
ReadOnes (Some h) = OneOrZero (evaluate ones h.components)

parsed_ones : (r : Option ResultType) (o : Option (List HarmonicComponent)) → Goes o → ReadOnes (parsed r o)
unfolding value_product
parsed_ones None o g = tt
parsed_ones (Some r) None g = tt
parsed_ones (Some r) (Some l) g =
    rw (take_at l (replicate (7 - length l) blank_component) (length l) refl) (g #1 (inl refl))

pub read_ones : (n : List ℕ) → ReadOnes (parse_harmonic n)
unfolding parse_harmonic value_product
read_ones n =
    by (ltb (length n) 4 || not (eqb (get_or n 0 0) (code "H"))) (parsed_ones (result_of (get_or n 1 0)) (components (drop 2 n)) (components_go (drop 2 n)))
  where
    by : (t : Bool) → ReadOnes (parsed (result_of (get_or n 1 0)) (components (drop 2 n)))
        → ReadOnes (cond t None (parsed (result_of (get_or n 1 0)) (components (drop 2 n))))
    by true p = tt
    by false p = p
