use Prim.Native.Nat.{ℕ}
use mathlib.Core.Path.{◌≡◌, refl, sym, ◌∙◌}
use mathlib.Core.List.{List}
use lib.ListN.{length}
use native.Mathlib.Omega.{arith}
use Rattle.harmonic.specs.Harmonic.{blank_component}
use Rattle.sequence.proofs.Parts.{unmapped}
use Rattle.exports.specs.Term.{codes_of}
use Rattle.exports.proofs.Mapped.{Mapped, mapped_next, mapped_end}
use Rattle.exports.proofs.term.component_codes.Invariants.{coordinate_of, frequency_of, function_of}
use Rattle.exports.proofs.term.component_codes.Goals as goal

blank : (A : Type 0) (f : A → ℕ) (s : List A) (out : List ℕ) → length s ≡ 7 → length out ≡ 7 → Mapped f s out 0
blank A f s out p q = record { long = q ∙ sym p; written = refl }

pub loop-i-init : goal.loop-i-init
loop-i-init c =
    let seven : length c.args.list ≡ 7 = search unmapped in
    (omega arith, seven, blank _ _ _ _ seven refl, blank _ _ _ _ seven refl, blank _ _ _ _ seven refl)

pub loop-i-preserved : goal.loop-i-preserved
loop-i-preserved c =
    let l = c.loop-i in (
      omega arith,
      l.invariant.1,
      mapped_next function_of _ _ l.i l.invariant.2 blank_component _ (omega arith) c.function_code.ensures,
      mapped_next coordinate_of _ _ l.i l.invariant.3 blank_component _ (omega arith) c.coordinate_code.ensures,
      mapped_next frequency_of _ _ l.i l.invariant.4 blank_component _ (omega arith) refl,
    )

pub returns : goal.returns
returns c =
    let l = c.loop-i in
    λ i. codes_of
    (mapped_end function_of _ _ l.i l.invariant.2 (omega arith) i)
    (mapped_end coordinate_of _ _ l.i l.invariant.3 (omega arith) i)
    (mapped_end frequency_of _ _ l.i l.invariant.4 (omega arith) i)
