-- A text is the same as itself. Assumes nothing.
use Prim.Native.Nat.{ℕ}
use mathlib.Core.Path.{◌≡◌, refl}
use mathlib.Core.Bool.{true}
use mathlib.Core.List.{List, [], ◌∷◌}
use borrow.Author.Tests.{eq-eqb}
use Rattle.terms.specs.Names.{same}

pub same_itself : (l : List ℕ) → same l l ≡ true
same_itself [] = refl
same_itself (a ∷ l) = rw (eq-eqb a a refl, same_itself l)
