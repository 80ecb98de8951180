-- The slots of a model: those of a new one, the term of one, and whether a name is among them. Definitions only.
use Rattle.std.specs.Prelude.{ℕ, Bool, false, List, replicate, Float}
use Rattle.limits.specs.Limits.{max_terms}
use Rattle.float.specs.Float.{#0}
use Rattle.sequence.specs.Sequence.{some}
use Rattle.terms.specs.Names.{same, read_term, term_or_blank}
use Rattle.terms.specs.Slots.{slot}
use Rattle.terms.specs.declared.Term.{Term}

unfoldable pub no_names : List ℕ
no_names = replicate 512 0

unfoldable pub no_numbers : List Float
no_numbers = replicate max_terms #0

unfoldable pub no_flags : List Bool
no_flags = replicate max_terms false

-- the term of slot i; a blank one where the slot is not read
abbrev pub term_at : List ℕ → ℕ → Term
term_at names i = term_or_blank (read_term (slot names i))

-- whether one of the first n slots is read as the term of a stored name, however it is spelled there
abbrev pub has_name : List ℕ → ℕ → List ℕ → Bool
has_name names n stored = some n (λ i. same (term_at names i).name stored)

-- whether the term of slot i is pier sensitive
abbrev pub pier_at : List ℕ → ℕ → Bool
pier_at names i = (term_at names i).pier_sensitive
