-- A pair of contributions, and the contributions of each term, as C structs. Definitions only.
use Rattle.std.specs.Prelude.{ℕ, Result, Ok, Err}
use Rattle.refusal.specs.Refusal.{number_of}
use Rattle.refusal.specs.declared.Refusal.{Refusal}
use Rattle.float.specs.Float.{#0}
use Rattle.observation.specs.declared.Pair.{Pair}
use Rattle.model.specs.declared.Breakdown.{Breakdown}
use Rattle.model.specs.Correction.{no_breakdown}
use Rattle.exports.specs.declared.point.PairAnswer.{PairAnswer}
use Rattle.exports.specs.declared.point.BreakdownAnswer.{BreakdownAnswer}

-- 0 and the pair, or the number of the question that refused, none of which is 0, and zeros
abbrev pub pair_answer : Result Pair Refusal → PairAnswer
pair_answer (Ok p) = record { refusal = 0; dh = p.dh; dd = p.dd }
pair_answer (Err why) = record { refusal = number_of why; dh = #0; dd = #0 }

abbrev pub broken_down : ℕ → Breakdown → BreakdownAnswer
broken_down k b = record { refusal = k; dh = b.dh; dd = b.dd; pier_sensitive = b.pier_sensitive }

-- the same of a breakdown; a refused one has zeros and false
abbrev pub breakdown_answer : Result Breakdown Refusal → BreakdownAnswer
breakdown_answer (Ok b) = broken_down 0 b
breakdown_answer (Err why) = broken_down (number_of why) no_breakdown
