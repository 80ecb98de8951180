-- Names one after the other in slots of 16 bytes, and the questions about them. Definitions only.
use Rattle.std.specs.Prelude.{ℕ, zero, suc, ◌*◌, List, Result, Ok, ⊤}
use Rattle.refusal.specs.Questions.{and_then}
use Rattle.refusal.specs.declared.Refusal.{Refusal}
use Rattle.limits.specs.Limits.{slot_bytes}
use Rattle.sequence.specs.Sequence.{part}
use Rattle.terms.specs.Names.{read_term}

-- the name of term i is in the 16 bytes that begin at 16·i
abbrev pub slot : List ℕ → ℕ → List ℕ
slot names i = part names (slot_bytes * i) slot_bytes

-- the first refusal among f 0 to f (n - 1), if there is one
unfoldable pub all_ok : {A : Type 0} → ℕ → (ℕ → Result A Refusal) → Result ⊤ Refusal
all_ok zero f = Ok tt
all_ok (suc n) f = and_then (all_ok n f) (λ _. and_then (f n) (λ _. Ok tt))

-- questions 7 to 10 of the first n names, all put to one name before the next, the lowest slot first
abbrev pub names_read : List ℕ → ℕ → Result ⊤ Refusal
names_read names n = all_ok n (λ i. read_term (slot names i))
