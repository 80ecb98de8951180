-- What a name is read as, in numbers, as a C struct. Definitions only.
use Rattle.std.specs.Prelude.{ℕ, false, List, [], map, replicate, Result, Ok, Err}
use Rattle.refusal.specs.Refusal.{number_of}
use Rattle.refusal.specs.declared.Refusal.{Refusal}
use Rattle.limits.specs.Limits.{slot_bytes}
use Rattle.equatorial.specs.Equatorial.{code_of, txn_number}
use Rattle.harmonic.specs.declared.TrigFunc.{TrigFunc}
use Rattle.harmonic.specs.declared.Coordinate.{Coordinate}
use Rattle.harmonic.specs.declared.ResultType.{ResultType}
use Rattle.harmonic.specs.Harmonic.{array_of}
use Rattle.harmonic.specs.declared.Components.{Components}
use Rattle.harmonic.specs.declared.HarmonicComponent.{HarmonicComponent}
use Rattle.terms.specs.declared.TermKind.{TermKind}
use Rattle.terms.specs.declared.TermKind.TheVariants.{Equatorial, Harmonic}
use Rattle.terms.specs.declared.Term.{Term}
use Rattle.exports.specs.declared.term.TermAnswer.{TermAnswer}
use Rattle.exports.specs.declared.term.ComponentCodes.{ComponentCodes}

-- ---- the kind of a term

abbrev pub result_code : ResultType → ℕ
result_code ResultType.H = 0
result_code ResultType.D = 1
result_code ResultType.X = 2
result_code ResultType.P = 3
result_code ResultType.A = 4
result_code ResultType.E = 5
result_code ResultType.Z = 6
result_code ResultType.S = 7

abbrev pub kind_code : TermKind → ℕ
kind_code (Equatorial t) = code_of t
kind_code (Harmonic h) = 15

abbrev pub kind_number : TermKind → ℕ
kind_number (Equatorial t) = txn_number t
kind_number (Harmonic h) = 0

abbrev pub kind_result : TermKind → ℕ
kind_result (Equatorial t) = 0
kind_result (Harmonic h) = result_code h.result

-- ---- components

abbrev pub function_code : TrigFunc → ℕ
function_code TrigFunc.Sin = 0
function_code TrigFunc.Cos = 1

abbrev pub coordinate_code : Coordinate → ℕ
coordinate_code Coordinate.H = 0
coordinate_code Coordinate.D = 1
coordinate_code Coordinate.A = 2
coordinate_code Coordinate.E = 3
coordinate_code Coordinate.Z = 4

abbrev pub codes_of : List ℕ → List ℕ → List ℕ → ComponentCodes
codes_of functions coordinates frequencies = record { functions = functions; coordinates = coordinates; frequencies = frequencies }

-- of the places behind a term's components zeros, since a blank component is sin, H and 0
abbrev pub component_codes : List HarmonicComponent → ComponentCodes
component_codes l = codes_of (map (λ c. function_code c.func) l) (map (λ c. coordinate_code c.coord) l) (map (λ c. c.frequency) l)

-- an equatorial term has none
abbrev pub components_of : TermKind → Components
components_of (Equatorial t) = array_of []
components_of (Harmonic h) = h.components

-- ---- the answer

abbrev pub read_answer : Term → TermAnswer
read_answer t =
    let cs = components_of t.kind in
    let codes = component_codes cs.list in
    record {
      refusal = 0;
      kind = kind_code t.kind;
      number = kind_number t.kind;
      result = kind_result t.kind;
      count = cs.count;
      name = t.name;
      functions = codes.functions;
      coordinates = codes.coordinates;
      frequencies = codes.frequencies;
      pier_sensitive = t.pier_sensitive;
    }

-- the number of the question that refused the name, none of which is 0, zeros and false
abbrev pub no_term : ℕ → TermAnswer
no_term k = record {
  refusal = k;
  kind = 0;
  number = 0;
  result = 0;
  count = 0;
  name = replicate slot_bytes 0;
  functions = replicate 7 0;
  coordinates = replicate 7 0;
  frequencies = replicate 7 0;
  pier_sensitive = false;
}

abbrev pub term_answer : Result Term Refusal → TermAnswer
term_answer (Ok t) = read_answer t
term_answer (Err why) = no_term (number_of why)
