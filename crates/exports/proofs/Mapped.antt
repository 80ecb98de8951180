-- A list that is written place by place, each element a function of another list's. Assumes nothing.
use Prim.Native.Nat.{ℕ, ◌+◌, ◌≤◌, ◌<◌}
use native.Mathlib.Numerals.{add-one}
use mathlib.Core.Path.{◌≡◌, sym, ap, ◌∙◌}
use mathlib.Core.List.{List, [], ◌∷◌, ◌++◌, map, map-append}
use lib.ListN.{length, get_or, take, set, length-set}
use lib.Seq.{take_all, take-suc, take-suc-set}

-- the first i elements of out are f of those of s
pub record Mapped {A B : Type 0} (f : A → B) (s : List A) (out : List B) (i : ℕ) : Type 0 where
  pub long : length out ≡ length s
  pub written : take i out ≡ map f (take i s)

module _ {A B : Type 0} (f : A → B) (s : List A) (out : List B) (i : ℕ) (m : Mapped f s out i) where
  pub mapped_next : (d : A) (v : B) → i < length s → v ≡ f (get_or s i d) → Mapped f s (set out i v) (i + 1)
  mapped_next d v h e =
      record {
        long = length-set out i v ∙ m.long;
        written =
            rw (add-one, take-suc-set out i v (rw m.long h), take-suc s i d h, map-append f (take i s) (get_or s i d ∷ []), e)
            (ap (λ l. l ++ (f (get_or s i d) ∷ [])) m.written);
      }

  pub mapped_end : length s ≤ i → out ≡ map f s
  mapped_end h = sym (take_all i out (rw m.long h)) ∙ m.written ∙ ap (map f) (take_all i s h)
