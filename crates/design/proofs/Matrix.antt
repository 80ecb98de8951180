-- The design matrix is filled a column at a time, its entries are the numbers of the columns that the fit is said of, and the whole is what the solver reads.
-- Assumes nothing.
use Prim.Native.Nat.{ℕ, zero, suc, ◌+◌, ◌-◌, ◌*◌, ◌≤◌, ◌<◌}
use native.Mathlib.Omega.{arith}
use mathlib.Core.Path.{◌≡◌, refl, sym, ap, ◌∙◌}
use mathlib.Core.Bool.{Bool, true, false, cond}
use mathlib.Core.List.{List, [], ◌∷◌, ◌++◌, map, zip_with, map-append, append-nil, append_assoc}
use lib.ListN.{length, get_or, take, drop, replicate, get_or-append}
use lib.Seq.{length-take-le, take-add, take-suc, take-length, take_all, drop-cons, drop-drop, get_or-take, get_or-drop, get_or-append-add}
use lib.Ieee.{Float, nan, lt}
use Rattle.float.specs.Float.{◌⊗◌, #0}
use Rattle.sequence.specs.Sequence.{at, part, concat_to, Only}
use Rattle.sequence.proofs.Parts.{apart, length_part, zip-append}
use Rattle.sequence.proofs.Fills.{last_or}
use Rattle.sequence.proofs.Concat.{concat_length}
use Rattle.sequence.proofs.Only.{length_cut, only_none, only_wider, only_then, back, back_only, back_part}
use Rattle.solver.specs.declared.Settings.{Settings}
use Rattle.design.specs.Design.{Star, star_at, sights_at, term_at, star_jacobian, cos_dec, sky_column, weighed, weighing, weighed_at, stacked}
use Rattle.design.specs.Matrix.{Matrix, matrix_of, hour_entry, dec_entry, entries, FilledUpTo, FillsColumn, HasRoom}
use Rattle.design.proofs.Rows.{star_by_star}

-- ---- two numbers a star

abbrev both : (ℕ → Float) → (ℕ → Float) → ℕ → List Float
both F G n = concat_to n (λ i. F i ∷ G i ∷ [])

module _ (F G : ℕ → Float) where
  both_long : (n : ℕ) → length (both F G n) ≡ 2 * n
  both_long = concat_length (λ i. F i ∷ G i ∷ []) 2 (λ i. refl)

  both_at : (n i : ℕ) → i < n → (at (both F G n) (2 * i) ≡ F i) × (at (both F G n) (2 * i + 1) ≡ G i)
  unfolding concat_to
  both_at zero i h = absurd (omega arith)
  both_at (suc n) i h =
      let B = both F G n in
      let long : length B ≡ 2 * n = both_long n in
      let two = F n ∷ G n ∷ [] in
      last_or i n h
      (λ l. (
        get_or-append B two nan (2 * i) (omega arith) ∙ (both_at n i l).0,
        get_or-append B two nan (2 * i + 1) (omega arith) ∙ (both_at n i l).1,
      ))
      (λ e.
      let first : 2 * i ≡ length B + 0 = omega arith in
      let second : 2 * i + 1 ≡ length B + 1 = omega arith in (
        ap (λ (k : ℕ). at (B ++ two) k) first ∙ get_or-append-add B two 0 nan ∙ ap F (sym e),
        ap (λ (k : ℕ). at (B ++ two) k) second ∙ get_or-append-add B two 1 nan ∙ ap G (sym e),
      ))

  -- with a number of b for each row
  both-zip : (f : Float → Float → Float) (b : List Float) (n : ℕ) → 2 * n ≤ length b
      → zip_with f (take (2 * n) b) (both F G n) ≡ both (λ i. f (at b (2 * i)) (F i)) (λ i. f (at b (2 * i + 1)) (G i)) n
  unfolding concat_to zip_with
  both-zip f b zero h = refl
  both-zip f b (suc n) h =
      let T = take (2 * n) b in
      let two : 2 * suc n ≡ 2 * n + 2 = omega arith in
      let one : suc (2 * n) ≡ 2 * n + 1 = omega arith in
      let next : take 2 (drop (2 * n) b) ≡ at b (2 * n) ∷ at b (2 * n + 1) ∷ [] =
      rw (drop-cons b (2 * n) nan (omega arith), drop-cons b (suc (2 * n)) nan (omega arith), one) refl in
      let long : length T ≡ length (both F G n) = length-take-le (2 * n) b (omega arith) ∙ sym (both_long n) in
      let both-parts = zip-append f T (at b (2 * n) ∷ at b (2 * n + 1) ∷ []) (both F G n) (F n ∷ G n ∷ []) long in
      rw (two, take-add (2 * n) 2 b, next, both-parts, both-zip f b n (omega arith)) refl

  -- weighed by residuals b
  both-weighed : (k : Float) (b : List Float) (n : ℕ) → length b ≡ 2 * n → weighing k b (both F G n)
      ≡ both (λ i. cond (lt #0 k) (weighed k (at b (2 * i)) (F i)) (F i)) (λ i. cond (lt #0 k) (weighed k (at b (2 * i + 1)) (G i)) (G i)) n
  unfolding weighing
  both-weighed k b n e = go (lt #0 k)
    where
      go : (t : Bool) → cond t (zip_with (weighed k) b (both F G n)) (both F G n)
          ≡ both (λ i. cond t (weighed k (at b (2 * i)) (F i)) (F i)) (λ i. cond t (weighed k (at b (2 * i + 1)) (G i)) (G i)) n
      go true = rw (take_all (2 * n) b (omega arith)) at (both-zip (weighed k) b n (omega arith))
      go false = refl

-- ---- a column's entries are what the fit has for its term

module _ (names free pier : List ℕ) (sheets : List Float) (used : List ℕ) (s : Settings) (k : Float) (w : List Float) (room : 8 * length used ≤ length w) where
  pub entries_are : (j : ℕ) → entries (matrix_of names free pier sheets used s k w) j
      ≡ weighed_at k (part w (6 * length used) (2 * length used)) s (sights_at pier sheets used) names (get_or free j 0)
  unfolding sky_column
  entries_are j =
      let t = term_at names (get_or free j 0) in
      let b = part w (6 * length used) (2 * length used) in
      let f : Star → Float = λ x. (star_jacobian s t x).dh ⊗ cos_dec x.sheet in
      let g : Star → Float = λ x. (star_jacobian s t x).dd in
      let star = star_at [] [] pier sheets in
      let long = length_part w (6 * length used) (2 * length used) (omega arith) in
      sym
      (ap (weighing k b) (star_by_star star f g used)
      ∙ both-weighed (λ i. f (star (get_or used i 0))) (λ i. g (star (get_or used i 0))) k b (length used) long)

-- ---- a column at a time

part_split : (l : List Float) (i n k : ℕ) → part l i (n + k) ≡ part l i n ++ part l (i + n) k
part_split l i n k = take-add n k (drop i l) ∙ ap (λ (r : List Float). take n (drop i l) ++ take k r) (drop-drop n i l)

-- a column a of n numbers has been written at x, and h - n zeros below it
pub deepened : (w w₁ ys a : List Float) (x n h : ℕ) → n ≤ h → x + h ≤ length w → part w₁ x n ≡ a → Only x n w w₁
    → length ys ≡ length (take (x + n + (h - n) - (x + n)) (drop (x + n) w₁))
    → ys ≡ replicate (length (take (x + n + (h - n) - (x + n)) (drop (x + n) w₁))) #0
    → (part (back w₁ ys (x + n) (h - n)) x h ≡ a ++ replicate (h - n) #0) × Only x h w (back w₁ ys (x + n) (h - n))
deepened w w₁ ys a x n h low room is only kept e =
    let v = back w₁ ys (x + n) (h - n) in
    let whole : n + (h - n) ≡ h = omega arith in
    let fits : x + n + (h - n) ≤ length w₁ = omega (arith, only.long) in
    let zeros : ys ≡ replicate (h - n) #0 = rw (length_cut w₁ (x + n) (h - n) fits) at e in
    let last : Only (x + n) (h - n) w₁ v = back_only w₁ ys (x + n) (h - n) fits kept in
    let top : part v x n ≡ a = last.below x n (omega arith) ∙ is in
    let rest : part v (x + n) (h - n) ≡ replicate (h - n) #0 = back_part w₁ ys (x + n) (h - n) fits kept ∙ zeros in (
      rw (whole, top, rest) at (part_split v x n (h - n)),
      only_then x h w w₁ v (only_wider x n x h w w₁ (omega arith) (omega arith) only) (only_wider (x + n) (h - n) x h w₁ v (omega arith) (omega arith) last),
    )

module _ {a : Matrix} {c h : ℕ} where
  pub filled_none : (w : List Float) → FilledUpTo a c h 0 w w
  filled_none w = record { filled = λ i l. absurd (omega arith); later = λ i l g. refl; outside = only_none c (a.m * h) w }

  module _ {j : ℕ} {was is : List Float} (p : FilledUpTo a c h j was is) where
    filled_next : (w : List Float) → j < a.m → part w (c + j * h) h ≡ entries a j ++ replicate (h - 2 * a.n) #0 → Only (c + j * h) h is w
        → FilledUpTo a c h (j + 1) was w
    filled_next w l e o = record {
      filled =
          λ i g.
          last_or i j (omega arith) (λ b. o.below (c + i * h) h (omega (arith, apart i j h b)) ∙ p.filled i b)
          (λ q. rw q e);
      later = λ i g u. o.above (c + i * h) h (omega (arith, apart j i h (omega arith))) ∙ p.later i (omega arith) u;
      outside =
          only_then c (a.m * h) was is w p.outside
          (only_wider (c + j * h) h c (a.m * h) is w (omega arith) (omega (arith, apart j a.m h l)) o);
    }

    -- the numbers of a column that is filled, by star and term
    pub entry_at : (i k : ℕ) → i < a.n → k < j → 2 * a.n ≤ h
        → (at is (c + k * h + 2 * i) ≡ hour_entry a i k) × (at is (c + k * h + (2 * i + 1)) ≡ dec_entry a i k)
    entry_at i k l g fits =
        let long = both_long (λ r. hour_entry a r k) (λ r. dec_entry a r k) a.n in
        let at-star = both_at (λ r. hour_entry a r k) (λ r. dec_entry a r k) a.n i l in
        (read (2 * i) (omega arith) (omega arith) ∙ at-star.0, read (2 * i + 1) (omega arith) (omega arith) ∙ at-star.1)
      where
        read : (q : ℕ) → q < h → q < length (entries a k) → at is (c + k * h + q) ≡ at (entries a k) q
        read q l e =
            sym (get_or-take h (drop (c + k * h) is) q nan l ∙ get_or-drop (c + k * h) is q nan)
            ∙ ap (λ (t : List Float). at t q) (p.filled k g)
            ∙ get_or-append (entries a k) (replicate (h - 2 * a.n) #0) nan q e

-- column j ends within a list that has room for all
pub column_room : (c j m h n : ℕ) → c + m * h ≤ n → j < m → c + j * h + h ≤ n
column_room c j m h n fits l = omega (arith, apart j m h l)

-- column j has been written, with zeros below it
pub filled_turn : (names free pier : List ℕ) (sheets : List Float) (used : List ℕ) (s : Settings) (k : Float) (c h j : ℕ) (before after : List Float)
    → 8 * length used ≤ c → c + length free * h ≤ length before → j < length free
    → part after (c + j * h) h
    ≡ weighed_at k (part before (6 * length used) (2 * length used)) s (sights_at pier sheets used) names (get_or free j 0) ++ replicate (h - 2 * length used) #0
    → Only (c + j * h) h before after → FillsColumn (matrix_of names free pier sheets used s k) c h j before after
filled_turn names free pier sheets used s k c h j before after behind fits l e o was p =
    let n = length used in
    let zeros = replicate (h - 2 * n) #0 in
    let same : part before (6 * n) (2 * n) ≡ part was (6 * n) (2 * n) = p.outside.below (6 * n) (2 * n) (omega arith) in
    let are = entries_are names free pier sheets used s k was (omega (arith, p.outside.long)) j in
    let there =
    e
    ∙ ap (λ (b : List Float). weighed_at k b s (sights_at pier sheets used) names (get_or free j 0) ++ zeros) same
    ∙ ap (λ (a : List Float). a ++ zeros) (sym are) in
    filled_next p after l there o

-- ---- the whole, as the solver reads it

stacked-snoc : (h : ℕ) (l : List (List Float)) (a : List Float) → stacked h (l ++ (a ∷ [])) ≡ stacked h l ++ (a ++ replicate (h - length a) #0)
unfolding stacked
stacked-snoc h [] a = append-nil (a ++ replicate (h - length a) #0)
stacked-snoc h (x ∷ l) a =
    let z = x ++ replicate (h - length x) #0 in
    ap (λ (r : List Float). z ++ r) (stacked-snoc h l a) ∙ sym (append_assoc z (stacked h l) (a ++ replicate (h - length a) #0))

module _ (cols : ℕ → List Float) (free : List ℕ) (n c h : ℕ) (w : List Float) (long : (i : ℕ) → i < length free → length (cols (get_or free i 0)) ≡ n)
    (filled : (i : ℕ) → i < length free → part w (c + i * h) h ≡ cols (get_or free i 0) ++ replicate (h - n) #0) where
  stacked-to : (i : ℕ) → i ≤ length free → part w c (i * h) ≡ stacked h (map cols (take i free))
  unfolding stacked
  stacked-to zero l =
      let none : 0 * h ≡ 0 = omega arith in
      ap (λ (i : ℕ). part w c i) none
  stacked-to (suc i) l =
      let x = cols (get_or free i 0) in
      let q : suc i * h ≡ i * h + h = omega arith in
      let more : map cols (take (suc i) free) ≡ map cols (take i free) ++ (x ∷ []) =
      rw (take-suc free i 0 l) (map-append cols (take i free) (get_or free i 0 ∷ [])) in
      rw (q, more, stacked-snoc h (map cols (take i free)) x, long i l, ← stacked-to i (omega arith), ← filled i l) (part_split w c (i * h) h)

module _ (names free pier : List ℕ) (sheets : List Float) (used : List ℕ) (s : Settings) (k : Float) (c h : ℕ) (was is : List Float)
    (r : HasRoom names free pier sheets used c h was) where
  pub design_stacked : FilledUpTo (matrix_of names free pier sheets used s k was) c h (length free) was is
      → part is c (length free * h)
      ≡ stacked h (map (weighed_at k (part was (6 * length used) (2 * length used)) s (sights_at pier sheets used) names) free)
  design_stacked p =
      let are = entries_are names free pier sheets used s k was (omega (arith, r.behind, r.columns_fit)) in
      let a = matrix_of names free pier sheets used s k was in
      let b = part was (6 * length used) (2 * length used) in
      let zeros = replicate (h - 2 * length used) #0 in
      let all =
      stacked-to (weighed_at k b s (sights_at pier sheets used) names) free (2 * length used) c h is
      (λ i l. ap length (sym (are i)) ∙ both_long (λ j. hour_entry a j i) (λ j. dec_entry a j i) (length used))
      (λ i l. p.filled i l ∙ ap (λ (e : List Float). e ++ zeros) (are i)) (length free) (omega arith) in
      rw (take-length free) at all
