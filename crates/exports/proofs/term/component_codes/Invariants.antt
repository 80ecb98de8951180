-- `exports::term::component_codes` meets its contract. The invariant: the codes of the components passed are written. Assumes nothing.
use Prim.Native.Nat.{ℕ, ◌≤◌, ◌-◌}
use mathlib.Core.Path.{◌≡◌}
use lib.ListN.{length}
use Rattle.harmonic.specs.declared.HarmonicComponent.{HarmonicComponent}
use Rattle.exports.specs.Term.{function_code, coordinate_code}
use Rattle.exports.proofs.Mapped.{Mapped}
use Rattle.exports.proofs.term.component_codes.Given as goal

abbrev pub function_of : HarmonicComponent → ℕ
function_of c = function_code c.func

abbrev pub coordinate_of : HarmonicComponent → ℕ
coordinate_of c = coordinate_code c.coord

abbrev pub frequency_of : HarmonicComponent → ℕ
frequency_of c = c.frequency

abbrev pub invariant-loop-i : goal.invariant-loop-i
invariant-loop-i l = (l.i ≤ 7) × (length l.fn.list ≡ 7) × Mapped function_of l.fn.list l.functions l.i × Mapped coordinate_of l.fn.list l.coordinates l.i
    × Mapped frequency_of l.fn.list l.frequencies l.i

abbrev pub decreases-loop-i : goal.decreases-loop-i
decreases-loop-i l = 7 - l.i
