-- Numbers, floats and lines as bytes, and what a write at a place of a buffer leaves. Definitions only.
use Rattle.std.specs.Prelude.{ℕ, zero, suc, ◌+◌, ◌-◌, ◌*◌, ◌/◌, ◌%◌, ◌^◌, ◌≤◌, ◌≡◌, Bool, cond, List, [], ◌∷◌, ◌++◌, ltb, length, Float}
use Prim.Native.Char.{code}
use Rattle.std.proofs.lemmas.List.Edits.{sets}
use Rattle.std.specs.Float.{binary64}
use Rattle.std.specs.Float.Ieee.{to_bits}
use Rattle.sequence.specs.Sequence.{table}
use Rattle.harmonic.specs.Table.{ascii}

-- the character of a digit, a to f from 10 on
unfoldable pub digit : ℕ → ℕ
digit d = cond (ltb d 10) (code "0" + d) (code "a" + (d - 10))

-- the last digits of v in base 10, at most so many, without zeros in front
unfoldable pub last_digits : ℕ → ℕ → List ℕ
last_digits zero v = []
last_digits (suc most) v =
    let front = last_digits most (v / 10) in
    cond (ltb v 10) [] front ++ (digit (v % 10) ∷ [])

-- v in base 10: it has no more than v + 1 digits
unfoldable pub decimal : ℕ → List ℕ
decimal v = last_digits (suc v) v

-- a space and a number
abbrev pub spaced : ℕ → List ℕ
spaced v = ascii " " ++ decimal v

-- sixteen digits in base 16, the highest first
unfoldable pub hexadecimal : ℕ → List ℕ
hexadecimal v = table 16 (λ i. digit (v / 2 ^ (60 - 4 * i) % 16))

-- a float is its bits
unfoldable pub bits_of : Float → List ℕ
bits_of x = hexadecimal (to_bits binary64 x)

-- a space and the word of a flag
abbrev pub flag : Bool → List ℕ
flag b = cond b (ascii " yes") (ascii " no")

abbrev pub newline : List ℕ
newline = 10 ∷ []

-- a text was written at a place, all of it: the bytes before it and behind it are as they were, and `next` is the place behind it
pub record Wrote (text : List ℕ) (place : ℕ) (was is : List ℕ) (next : ℕ) : Type 0 where
  pub buffer : is ≡ sets was place text
  pub end : next ≡ place + length text
  pub room : next ≤ length was

-- Room for any listing of 16 terms. A count has at most 20 digits and a name at most 16 bytes, so that the first line has at most 96 bytes,
-- a term's line 56 and the last 38.
abbrev pub listing_room : ℕ
listing_room = 1030
