-- What follows from the definitions alone: no more bytes are written than the buffer has. Assumes nothing.
use Prim.Native.Nat.{ℕ, ◌≤◌}
use native.Mathlib.Omega.{arith}
use mathlib.Core.Path.{◌≡◌}
use mathlib.Core.Bool.{Bool, true, false, cond}
use mathlib.Core.List.{List, []}
use lib.Dec.{leb}
use lib.ListN.{length, length-append}
use Rattle.listing.specs.Text.{listing_room}
use Rattle.pmf.specs.Pmf.{listed, written, listed_in}

pub count_within : (s d : List ℕ) → (listed_in s d).count ≤ length (listed_in s d).buffer
unfolding listed_in
count_within s d = by (leb listing_room (length d))
  where
    of : (text : List ℕ) → length text ≤ length (written text d).buffer
    of text = simp length-append (omega arith)

    by : (b : Bool) → (cond b (written (listed s) d) (written [] d)).count ≤ length (cond b (written (listed s) d) (written [] d)).buffer
    by true = of (listed s)
    by false = of []

-- the same of a call's answer
pub within : (s d : List ℕ) {n : ℕ} {is : List ℕ} → record { count = n; buffer = is } ≡ listed_in s d → n ≤ length is
within s d e = rw (← e) at (count_within s d)
