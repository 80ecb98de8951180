-- A name that is read has at most seven components. Assumes nothing.
use Prim.Native.Nat.{ℕ, ◌+◌, ◌-◌, ◌≤◌}
use Prim.Native.Char.{code}
use native.Mathlib.Omega.{arith}
use mathlib.Core.Path.{◌≡◌, refl, subst}
use mathlib.Core.Bool.{Bool, true, false, not, ◌||◌, cond}
use mathlib.Core.List.{List, [], ◌∷◌}
use lib.Dec.{eqb, ltb}
use lib.ListN.{length, get_or, drop, length-drop}
use Rattle.std.specs.Prelude.{Option, None, Some}
use Rattle.harmonic.specs.Harmonic.{is_digit, component, join, components, result_of, parsed, parse_harmonic}
use Rattle.harmonic.specs.declared.ResultType.{ResultType}
use Rattle.harmonic.specs.declared.HarmonicComponent.{HarmonicComponent}
use Rattle.harmonic.specs.declared.Harmonic.{Harmonic}
use Rattle.terms.specs.Names.{term_or_blank, read_term}
use Rattle.terms.specs.declared.Term.{Term}
use Rattle.terms.proofs.Readings.{of_reading}
use Rattle.exports.specs.Term.{components_of}

either : {A : Type 0} (f : A → ℕ) (n : ℕ) (t : Bool) (a b : A) → (t ≡ true → f a ≤ n) → f b ≤ n → f (cond t a b) ≤ n
either f n true a b p q = p refl
either f n false a b p q = q

-- ---- a component takes two bytes or three

size : Option (List HarmonicComponent) → ℕ
size None = 0
size (Some l) = length l

join_size : (m : Option HarmonicComponent) (o : Option (List HarmonicComponent)) → size (join m o) ≤ size o + 1
unfolding size
join_size None o = omega arith
join_size (Some c) None = omega arith
join_size (Some c) (Some l) = omega arith

components_size : (s : List ℕ) → size (components s) + size (components s) ≤ length s
unfolding components size
components_size [] = omega arith
components_size (f ∷ []) = omega arith
components_size (f ∷ c ∷ []) = omega (arith, join_size (component f c 1) (Some []))
components_size (f ∷ c ∷ d ∷ s) =
    either (λ (o : Option (List HarmonicComponent)). size o + size o) _ (is_digit d) _ _
    (λ e. omega (arith, join_size (component f c (d - code "0")) (components s), components_size s))
    (omega (arith, join_size (component f c 1) (components (d ∷ s)), components_size (d ∷ s)))

-- ---- a whole name

count : Option Harmonic → ℕ
count None = 0
count (Some h) = h.components.count

parsed_size : (r : Option ResultType) (o : Option (List HarmonicComponent)) → count (parsed r o) ≤ size o
unfolding size count
parsed_size None o = omega arith
parsed_size (Some r) None = omega arith
parsed_size (Some r) (Some l) = omega arith

parse_few : (n : List ℕ) → length n ≤ 16 → count (parse_harmonic n) ≤ 7
unfolding parse_harmonic count
parse_few n h =
    let result = result_of (get_or n 1 0) in
    let list = components (drop 2 n) in
    either count 7 (ltb (length n) 4 || not (eqb (get_or n 0 0) (code "H"))) None (parsed result list)
    (λ e. omega arith)
    (omega (arith, parsed_size result list, components_size (drop 2 n), length-drop 2 n))

pub few : (slot : List ℕ) → (components_of (term_or_blank (read_term slot)).kind).count ≤ 7
unfolding count
few =
    of_reading (λ (t : Term). (components_of t.kind).count ≤ 7) (λ t name. omega arith)
    (λ n h l e. subst (λ (o : Option Harmonic). count o ≤ 7) e (parse_few n l))
