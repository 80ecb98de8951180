-- What the questions' definitions say where they are answered yes or no. Assumes nothing.
use Prim.Native.Nat.{ℕ, ◌+◌, ◌*◌, ◌≤◌}
use native.Mathlib.Omega.{arith}
use mathlib.Core.Path.{◌≡◌, refl, sym, ◌∙◌, ap}
use mathlib.Core.Bool.{Bool, true, false, ◌&&◌, cond}
use mathlib.Core.List.{List, [], ◌∷◌}
use borrow.Author.Tests.{leb-true, eqb-true}
use lib.Dec.{leb, eqb}
use lib.ListN.{length}
use Rattle.std.specs.Prelude.{Result, Ok, Err, ⊤}
use Rattle.std.specs.List.{list_all, filter, count_by}
use Rattle.std.proofs.lemmas.List.Sums.{length-filter}
use Rattle.refusal.specs.declared.Refusal.{Refusal}
use Rattle.sequence.specs.Sequence.{every}
use Rattle.sequence.proofs.Tests.{left_of, right_of}
use Rattle.sequence.proofs.Fills.{table-length}
use Rattle.solver.specs.Call.{FitInputs}
use Rattle.design.specs.Design.{kept, up_to, collect_indices}
use Rattle.validate.specs.Questions.{in_limits, counts, counts_in, scratch_needed, free_count}

-- ---- questions 1 to 3

pub limits_facts : (m n : ℕ) → in_limits m n ≡ true → (m ≤ 32) × (n ≤ 1024)
unfolding in_limits
limits_facts m n e = (leb-true m 32 (left_of (leb m 32) (leb n 1024) e), leb-true n 1024 (right_of (leb m 32) (leb n 1024) e))

pub record CountsMatch (l : FitInputs) : Type 0 where
  pub names_count : length l.names ≡ 16 * length l.coefficients
  pub fixed_count : length l.fixed ≡ length l.coefficients
  pub dd_count : length l.dd ≡ length l.dh
  pub pier_count : length l.pier ≡ length l.dh
  pub sheets_count : length l.sheets ≡ 37 * length l.dh

pub counts_facts : (l : FitInputs) → counts_in l ≡ true → CountsMatch l
unfolding counts
counts_facts l e =
    let m = length l.coefficients in
    let n = length l.dh in
    let a = eqb (length l.names) (16 * m) in
    let b = eqb (length l.fixed) m in
    let c = eqb (length l.dd) n in
    let d = eqb (length l.pier) n in
    let f = eqb (length l.sheets) (37 * n) in
    let e4 : (a && b && c && d) ≡ true = left_of (a && b && c && d) f e in
    let e3 : (a && b && c) ≡ true = left_of (a && b && c) d e4 in
    let e2 : (a && b) ≡ true = left_of (a && b) c e3 in
    record {
      names_count = eqb-true (length l.names) (16 * m) (left_of a b e2);
      fixed_count = eqb-true (length l.fixed) m (right_of a b e2);
      dd_count = eqb-true (length l.dd) n (right_of (a && b) c e3);
      pier_count = eqb-true (length l.pier) n (right_of (a && b && c) d e4);
      sheets_count = eqb-true (length l.sheets) (37 * n) (right_of (a && b && c && d) f e);
    }

-- it needs at most what document 01 asks
pub scratch_shorter : (m n : ℕ) → scratch_needed m n ≤ (4 * n + 3 * m) * m + 8 * n + 8 * m
unfolding scratch_needed
scratch_shorter m n = let e : (4 * n + 3 * m) * m ≡ (2 * n + 3 * m) * m + 2 * n * m = omega arith in omega arith

-- ---- the words of chains

pub every_is : {A : Type 0} (p : A → Bool) (xs : List A) → list_all p xs ≡ every p xs
every_is p [] = refl
every_is p (x ∷ xs) = ap (λ b. p x && b) (every_is p xs)

kept-count : {A : Type 0} (fs : List ℕ) (xs : List A) → length xs ≡ length fs → length (filter (λ f. eqb f 0) fs) ≡ length (kept fs xs)
unfolding kept
kept-count [] [] h = refl
kept-count [] (x ∷ xs) h = absurd (omega arith)
kept-count (f ∷ fs) [] h = absurd (omega arith)
kept-count (f ∷ fs) (x ∷ xs) h = by (eqb f 0) (kept-count fs xs (omega arith))
  where
    few : List ℕ
    few = filter (λ g. eqb g 0) fs

    by : (b : Bool) → length few ≡ length (kept fs xs) → length (cond b (f ∷ few) few) ≡ length (cond b (x ∷ kept fs xs) (kept fs xs))
    by true e = omega arith
    by false e = e

pub free_count_is : (fixed : List ℕ) → count_by (λ f. eqb f 0) fixed ≡ free_count fixed
unfolding collect_indices
free_count_is fixed = sym (length-filter (λ f. eqb f 0) fixed) ∙ kept-count fixed (up_to (length fixed)) (table-length (λ i. i) (length fixed))

-- ---- questions in order

-- the first of some that are all answered yes, and the rest
pub first_yes : (b : Bool) (why : Refusal) (r : Result ⊤ Refusal) (u : ⊤) → cond b r (Err why) ≡ Ok u → (b ≡ true) × (r ≡ Ok u)
first_yes true why r u h = (refl, h)
first_yes false why r u h = cc
