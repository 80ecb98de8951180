-- The front of a list that was lent and came back: what is written in it, and what is kept. Assumes nothing.
use Prim.Native.Nat.{ℕ, ◌+◌, ◌-◌, ◌≤◌}
use native.Mathlib.Omega.{arith}
use mathlib.Core.Path.{◌≡◌, sym, ap, ◌∙◌}
use mathlib.Core.List.{List, ◌++◌}
use lib.ListN.{length, take, drop, length-append, length-drop}
use lib.Seq.{length-take-le, take_at, drop_at, drop-drop}
use Rattle.sequence.specs.Sequence.{part}
use Rattle.sequence.proofs.Parts.{part-take}

-- l, whose first k elements came back as ys
abbrev pub renewed : {A : Type 0} → List A → List A → ℕ → List A
renewed l ys k = ys ++ drop k l

pub record Renewed {A : Type 0} (l ys : List A) (k : ℕ) : Type 0 where
  pub room : k ≤ length l
  pub kept : length ys ≡ length (take k l)

module _ {A : Type 0} {l ys : List A} {k : ℕ} (r : Renewed l ys k) where
  count : length ys ≡ k
  count = r.kept ∙ length-take-le k l r.room

  pub front_long : length (renewed l ys k) ≡ length l
  front_long =
      let n : length ys ≡ k = count in
      let h : k ≤ length l = r.room in
      length-append ys (drop k l) ∙ simp length-drop (omega arith)

  pub front_fits : k ≤ length (renewed l ys k)
  front_fits = rw front_long r.room

  -- what is lent once more
  pub front_again : take k (renewed l ys k) ≡ ys
  front_again = take_at ys (drop k l) k count

  pub front_count : length (take k (renewed l ys k)) ≡ k
  front_count = ap length front_again ∙ count

  pub front_part : (i n : ℕ) → i + n ≤ k → part (renewed l ys k) i n ≡ part ys i n
  front_part i n h = sym (part-take (renewed l ys k) i n k h front_fits) ∙ ap (λ (u : List A). part u i n) front_again

  -- what was not lent
  pub front_rest : drop k (renewed l ys k) ≡ drop k l
  front_rest = drop_at ys (drop k l) k count

  pub front_above : (i : ℕ) → k ≤ i → drop i (renewed l ys k) ≡ drop i l
  front_above i h =
      let split : k + (i - k) ≡ i = omega arith in
      rw split at (sym (drop-drop (i - k) k (renewed l ys k)) ∙ ap (drop (i - k)) front_rest ∙ drop-drop (i - k) k l)
