-- What a sheet holds: 37 numbers, from docs/SCOPE.md 3.1. A read past the end of a list is a NaN. Definitions only.
use Rattle.std.specs.Prelude.{ℕ, ◌+◌, ◌*◌, ◌-◌, List, Float}
use Rattle.sequence.specs.Sequence.{at}
use Rattle.observation.specs.declared.Point.{Point}

-- where sin k·h stands, for k = 1 to 9; cos k·h is the next number
abbrev pub place_h : ℕ → ℕ
place_h k = 2 * (k - 1)

-- where sin k·dec stands, for k = 1 to 9; cos k·dec is the next number
abbrev pub place_dec : ℕ → ℕ
place_dec k = 2 * (k - 1) + 18

-- where tan dec stands
abbrev pub place_tan : ℕ
place_tan = 36

-- what the equatorial terms read: of a sheet, with sin lat, cos lat and the pier's sign
unfoldable pub point_of : List Float → Float → Float → Float → Point
point_of sheet sinLat cosLat pier =
    record {
      sin_h = at sheet (place_h 1);
      cos_h = at sheet (place_h 1 + 1);
      sin_dec = at sheet (place_dec 1);
      cos_dec = at sheet (place_dec 1 + 1);
      tan_dec = at sheet place_tan;
      sin_lat = sinLat;
      cos_lat = cosLat;
      pier = pier;
    }
