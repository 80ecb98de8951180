-- How much scratch a fit needs, as a C struct. Definitions only.
use Rattle.std.specs.Prelude.{ℕ, [], ◌∷◌, Result, Ok, Err}
use Rattle.refusal.specs.Refusal.{number_of}
use Rattle.refusal.specs.declared.Refusal.{Refusal}
use Rattle.refusal.specs.declared.Refusal.TheVariants.{Limits}
use Rattle.refusal.specs.Questions.{ask, asked}
use Rattle.validate.specs.Questions.{in_limits, scratch_needed}
use Rattle.exports.specs.declared.ScratchLength.{ScratchLength}

abbrev pub length_answer : Result ℕ Refusal → ScratchLength
length_answer (Ok n) = record { refusal = 0; length = n }
length_answer (Err why) = record { refusal = number_of why; length = 0 }

-- question 1 of m terms and n stars, then what question 3 asks of scratch
unfoldable pub scratch_length : ℕ → ℕ → ScratchLength
scratch_length m n = length_answer (asked (ask (in_limits m n) Limits ∷ []) (Ok (scratch_needed m n)))
