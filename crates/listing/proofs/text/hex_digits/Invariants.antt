-- `listing::hex_digits` meets its contract. The invariant: the first i digits are written. Assumes nothing.
use Prim.Native.Nat.{ℕ, ◌*◌, ◌-◌, ◌/◌, ◌%◌, ◌^◌, ◌≤◌}
use mathlib.Core.Path.{◌≡◌}
use lib.ListN.{length}
use Rattle.sequence.specs.Sequence.{filled}
use Rattle.listing.specs.Text.{digit}
use Rattle.listing.proofs.text.hex_digits.Given as goal

abbrev pub digit_at : ℕ → ℕ → ℕ
digit_at v i = digit (v / 2 ^ (60 - 4 * i) % 16)

abbrev pub invariant-loop-i : goal.invariant-loop-i
invariant-loop-i l = (l.i ≤ 16) × (length l.initial.d-items ≡ 16) × (l.d-items ≡ filled l.i (digit_at l.v) l.initial.d-items)
