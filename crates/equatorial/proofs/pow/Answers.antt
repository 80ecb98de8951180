-- `equatorial::pow` meets its contract. Assumes nothing.
use Prim.Native.Nat.{ℕ, zero, suc, ◌+◌}
use native.Mathlib.Omega.{arith}
use mathlib.Core.Path.{◌≡◌, refl, ap, ◌∙◌}
use borrow.Author.Rules.{rules}
use lib.Ieee.{Float}
use Rattle.std.specs.List.{fold, range_with_len}
use Rattle.std.proofs.lemmas.Iterator.{YieldsList-from_range}
use Rattle.std.proofs.lemmas.Iterator.Consumers.{fold_from_yields_List}
use Rattle.float.specs.Float.{◌⊗◌, #1}
use Rattle.equatorial.specs.Equatorial.{power}
use Rattle.equatorial.proofs.pow.Goals as goal

-- n factors after k of them, whatever numbers are counted beside
more : (x : Float) (i n k m : ℕ) → k + n ≡ m → fold (λ (p : Float) (_ : ℕ). p ⊗ x) (power x k) (range_with_len i n) ≡ power x m
unfolding power
more x i zero k m e = ap (power x) (omega arith)
more x i (suc n) k m e = more x (i + 1) n (suc k) m (omega arith)

pub returns : goal.returns
unfolding power
returns c =
    let x = c.args.x in
    let n = c.args.n in
    fold_from_yields_List _ (λ (p : Float) (_ : ℕ). p ⊗ x) #1 _ c.fold.ensures.ran (YieldsList-from_range 0 n n refl (omega arith)) (λ a y b q k. search rules)
    ∙ more x 0 n 0 n (omega arith)
