-- What a closure computes, where a function is told so of the closure that it is given. Definitions only.
use Rattle.std.specs.Prelude.{ℕ, ◌<◌, ◌≡◌, Bool, length, Float}
use mathlib.Core.List.{[]}
use Rattle.observation.specs.declared.Pair.{Pair}
use Rattle.design.specs.Design.{Star, star_at}
use Rattle.design.specs.Sights.{SightInputs}

-- of two numbers op
abbrev pub CombinesBy : (Float → Float → Float → Type 0) → (Float → Float → Float) → Type 0
CombinesBy post op = (y x r : Float) → post y x r → r ≡ op y x

-- of a number a test
abbrev pub Tests : (Float → Bool → Type 0) → (Float → Bool) → Type 0
Tests post p = (x : Float) (r : Bool) → post x r → r ≡ p x

-- of a star's number f of that star
abbrev pub GivesPairs : (ℕ → Pair → Type 0) → SightInputs → (Star → Pair) → Type 0
GivesPairs post l f = (i : ℕ) (r : Pair) → i < length l.pier → post i r → r ≡ f (star_at [] [] l.pier l.sheets i)
