-- A slot's name, and the name with zeros behind. Assumes nothing.
use Prim.Native.Nat.{ℕ, zero, suc, ◌+◌, ◌-◌, ◌≤◌, ◌<◌}
use native.Mathlib.Omega.{arith}
use mathlib.Core.Path.{◌≡◌, refl, ◌∙◌, ap, ap₂, sym}
use mathlib.Core.Bool.{Bool, true, false, cond, ◌&&◌, and-false, not, true≢false}
use mathlib.Core.List.{List, [], ◌∷◌, ◌++◌, map, map-append}
use lib.ListN.{length, take, drop, replicate, length-drop, length-map, take-append-drop}
use lib.Seq.{take_all}
use lib.Dec.{eqb}
use borrow.Author.Tests.{ltb-false, lt-ltb, le-ltb, eq-eqb, eqb-true}
use Rattle.std.proofs.lemmas.List.Sums.{prefix_len-le-length}
use Rattle.std.specs.Prelude.{Some, None, unwrap_or, position, IsAscii, MatchBool, ltb}
use Rattle.std.specs.Str.{IsNotAscii}
use Rattle.std.specs.List.{position_or_len, list_all}
use Rattle.sequence.specs.Sequence.{every}
use Rattle.std.proofs.lemmas.List.Recursion.{is_position_or_len}
use Rattle.sequence.proofs.Tests.{left_of, right_of}
use Rattle.terms.specs.Names.{capital, padded, name_of, well_formed, find, fixed_names, by_known, read_term}

name_longer : (x : ℕ) (s : List ℕ) → length (name_of (x ∷ s)) ≡ cond (eqb x 0) 0 (1 + length (name_of s))
unfolding name_of
name_longer x s = by (eqb x 0)
  where
    by : (t : Bool) → length (cond t [] (x ∷ name_of s)) ≡ cond t 0 (1 + length (name_of s))
    by true = refl
    by false = omega arith

name_none : length (name_of []) ≡ 0
unfolding name_of
name_none = refl

-- a name ends at the first zero
pub name_ends : (s : List ℕ) → length (name_of s) ≡ position_or_len (λ b. eqb b 0) s
name_ends s = is_position_or_len (λ s. length (name_of s)) (λ b. eqb b 0) name_none name_longer s

-- `iter().position(|b| *b == 0)`, or the length
pub name_ends_at : (s : List ℕ) → unwrap_or (position (λ b. eqb b 0) s) (length s) ≡ length (name_of s)
name_ends_at s = by (ltb (position_or_len (λ b. eqb b 0) s) (length s)) refl
  where
    by : (t : Bool) → ltb (position_or_len (λ b. eqb b 0) s) (length s) ≡ t
        → unwrap_or (cond t (Some (position_or_len (λ b. eqb b 0) s)) None) (length s) ≡ length (name_of s)
    by true e = sym (name_ends s)
    by false e = omega (arith, name_ends s, ltb-false (position_or_len (λ b. eqb b 0) s) (length s) e, prefix_len-le-length (λ b. not (eqb b 0)) s)

pub end_within : (s : List ℕ) → length (name_of s) ≤ length s
end_within s = omega (arith, name_ends s, prefix_len-le-length (λ b. not (eqb b 0)) s)

-- bytes of ASCII, as `is_ascii` tells
ascii : (s : List ℕ) → IsAscii s → every (λ b. ltb b 128) s ≡ true
ascii [] h = refl
ascii (x ∷ s) h = rw (lt-ltb x 128 (h 0)) (ascii s (λ i. h (suc i)))

not_ascii : (s : List ℕ) → IsNotAscii s → every (λ b. ltb b 128) s ≡ false
not_ascii [] (i, h) = absurd (omega arith)
not_ascii (x ∷ s) (zero, h) = rw (le-ltb x 128 h)
not_ascii (x ∷ s) (suc i, h) = rw (not_ascii s (i, h), and-false (ltb x 128))

pub ascii_every : (r : Bool) (s : List ℕ) → MatchBool r (IsAscii s) (IsNotAscii s) → r ≡ every (λ b. ltb b 128) s
ascii_every true s m = sym (ascii s m)
ascii_every false s m = sym (not_ascii s m)

pub all_every : {A : Type 0} (p : A → Bool) (s : List A) → list_all p s ≡ every p s
all_every p [] = refl
all_every p (x ∷ s) = ap (λ t. p x && t) (all_every p s)

name_take : (s : List ℕ) → take (length (name_of s)) s ≡ name_of s
unfolding name_of
name_take [] = refl
name_take (b ∷ s) = by (eqb b 0) (name_take s)
  where
    by : (t : Bool) → take (length (name_of s)) s ≡ name_of s
        → take (length (cond t [] (b ∷ name_of s))) (b ∷ s) ≡ cond t [] (b ∷ name_of s)
    by true ih = refl
    by false ih = ap (λ u. b ∷ u) ih

-- ---- the name ends at n

module _ (s : List ℕ) (n : ℕ) (is : n ≡ length (name_of s)) where
  front : take n s ≡ name_of s
  front = ap (λ k. take k s) is ∙ name_take s

  behind : take (length s - n) (drop n s) ≡ drop (length (name_of s)) s
  behind = take_all (length s - n) (drop n s) (simp length-drop (omega arith)) ∙ ap (λ k. drop k s) is

  pub some_byte : (v : Bool) → v ≡ not (eqb n 0) → n ≡ 0 → v ≡ true → ⊥
  some_byte v e z t = true≢false (sym t ∙ e ∙ ap not (eq-eqb n 0 z))

  pub empty : (v : Bool) → v ≡ not (eqb n 0) → n ≡ 0 → v ≡ well_formed s
  unfolding well_formed
  empty v e z = e ∙ ap not (eq-eqb n 0 z) ∙ rw (sym is ∙ z)

  pub no_ascii : (r : Bool) → r ≡ false → r ≡ every (λ b. ltb b 128) (take n s) → r ≡ well_formed s
  unfolding well_formed
  no_ascii r f e = rw (sym (ap (every (λ b. ltb b 128)) front) ∙ sym e ∙ f, and-false (ltb 0 (length (name_of s)))) f

  pub all_well : (r a : Bool) → (n ≡ 0 → ⊥) → a ≡ true → a ≡ every (λ b. ltb b 128) (take n s) → r ≡ list_all (λ b. eqb b 0) (take (length s - n) (drop n s)) → r ≡ well_formed s
  unfolding well_formed
  all_well r a some t e z =
      let more : 0 < length (name_of s) = omega arith in
      rw (lt-ltb 0 (length (name_of s)) more, sym (ap (every (λ b. ltb b 128)) front) ∙ sym e ∙ t)
      (z ∙ all_every (λ b. eqb b 0) (take (length s - n) (drop n s)) ∙ ap (every (λ b. eqb b 0)) behind)

-- ---- the capitals

take-map : (n : ℕ) (s : List ℕ) → take n (map capital s) ≡ map capital (take n s)
take-map zero s = refl
take-map (suc n) [] = refl
take-map (suc n) (x ∷ s) = ap (λ u. capital x ∷ u) (take-map n s)

pub capitals_long : (s full : List ℕ) → full ≡ map capital s → length full ≡ length s
capitals_long s full e = ap length e ∙ length-map s capital

-- zeros are a repeat of zero, and their capitals too
zeros : (u : List ℕ) → every (λ b. eqb b 0) u ≡ true → map capital u ≡ replicate (length u) 0
zeros [] e = refl
zeros (b ∷ u) e =
    let z = eqb-true b 0 (left_of (eqb b 0) (every (λ b. eqb b 0) u) e) in
    ap₂ (λ (x : ℕ) (l : List ℕ). capital x ∷ l) z (zeros u (right_of (eqb b 0) (every (λ b. eqb b 0) u) e))

-- the capitals of a well-formed slot are those of its name, with zeros behind
pub clean : (s : List ℕ) (n : ℕ) (full : List ℕ) → n ≡ length (name_of s) → full ≡ map capital s → length s ≡ 16 → well_formed s ≡ true
    → full ≡ padded (take n full)
unfolding well_formed
clean s n full is e sixteen well =
    let m = length (name_of s) in
    let none = right_of (ltb 0 m && every (λ b. ltb b 128) (name_of s)) (every (λ b. eqb b 0) (drop m s)) well in
    let name : take n full ≡ map capital (name_of s) = ap₂ take is e ∙ take-map m s ∙ ap (map capital) (name_take s) in
    let split : s ≡ name_of s ++ drop m s = sym (take-append-drop m s) ∙ ap (λ u. u ++ drop m s) (name_take s) in
    let rest : length (drop m s) ≡ 16 - length (map capital (name_of s)) = rw (length-drop, length-map, sixteen) in
    e ∙ ap (map capital) split ∙ map-append capital (name_of s) (drop m s)
    ∙ ap (λ u. map capital (name_of s) ++ u) (zeros (drop m s) none ∙ ap (λ k. replicate k 0) rest) ∙ ap padded (sym name)

pub created : (s : List ℕ) (n : ℕ) (full : List ℕ) → n ≡ length (name_of s) → full ≡ map capital s → length s ≡ 16 → well_formed s ≡ true
    → by_known (take n full) (find fixed_names (take n full)) ≡ read_term s
unfolding read_term
created s n full is e sixteen well =
    let name : take n full ≡ map capital (name_of s) = ap₂ take is e ∙ take-map (length (name_of s)) s ∙ ap (map capital) (name_take s) in
    ap (λ k. by_known k (find fixed_names k)) name ∙ rw (eq-eqb (length s) 16 sixteen, well)
