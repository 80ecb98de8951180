-- The numbers of docs/SCOPE.md 10.1. Definitions only.
use Rattle.std.specs.Prelude.{ℕ}
use Rattle.refusal.specs.declared.Refusal.{Refusal}
use Rattle.refusal.specs.declared.Refusal.TheVariants.{Limits, Lengths, Room, NotFinite, Code, IterationLimit, NotAName, AltAzTerm, UnknownTerm}
use Rattle.refusal.specs.declared.Refusal.TheVariants.{MalformedHarmonic, NoTerm, NoFreeTerm, TooFewStars, FullModel, NotAFile}

abbrev pub number_of : Refusal → ℕ
number_of Limits = 1
number_of Lengths = 2
number_of Room = 3
number_of NotFinite = 4
number_of Code = 5
number_of IterationLimit = 6
number_of NotAName = 7
number_of AltAzTerm = 8
number_of UnknownTerm = 9
number_of MalformedHarmonic = 10
number_of NoTerm = 11
number_of NoFreeTerm = 12
number_of TooFewStars = 13
number_of FullModel = 14
number_of NotAFile = 15
