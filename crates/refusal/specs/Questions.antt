-- Questions in their order, each with the refusal that a "no" gives. Definitions only.
use Rattle.std.specs.Prelude.{Bool, cond, List, [], ◌∷◌, Result, Ok, Err}
use Rattle.refusal.specs.declared.Refusal.{Refusal}

pub record Question : Type 0 where
  pub yes : Bool
  pub refusal : Refusal

abbrev pub ask : Bool → Refusal → Question
ask b why = record { yes = b; refusal = why }

-- the refusal of the first "no", or the answer where there is none
abbrev pub asked : {A : Type 0} → List Question → Result A Refusal → Result A Refusal
asked [] answer = answer
asked (q ∷ qs) answer = cond q.yes (asked qs answer) (Err q.refusal)

-- what is made of an answer, where it is no refusal
abbrev pub and_then : {A B : Type 0} → Result A Refusal → (A → Result B Refusal) → Result B Refusal
and_then (Ok a) f = f a
and_then (Err why) f = Err why
