-- What the functions that make a column are lent of the stars. Definitions only.
use Rattle.std.specs.Prelude.{ℕ, List, Float}
use Rattle.solver.specs.declared.Settings.{Settings}
use Rattle.design.specs.Design.{Star, RunInputs, run_inputs, sights_at}
use Rattle.design.specs.Counted.{Seen}
use Rattle.design.specs.Matrix.{Matrix, matrix_of}

-- pier codes, sheets, the indices of the stars that count, and the settings
pub record SightInputs : Type 0 where
  pub pier : List ℕ
  pub sheets : List Float
  pub used : List ℕ
  pub settings : Settings

abbrev pub sight_inputs : List ℕ → List Float → List ℕ → Settings → SightInputs
sight_inputs pier sheets used settings = record { pier = pier; sheets = sheets; used = used; settings = settings }

abbrev pub SeenIn : SightInputs → Type 0
SeenIn l = Seen l.pier l.sheets l.used

abbrev pub sights_in : SightInputs → List Star
sights_in l = sights_at l.pier l.sheets l.used

-- the design matrix of some terms, weighed by the residuals that lie at 6·n in w
abbrev pub matrix_in : List ℕ → List ℕ → SightInputs → Float → List Float → Matrix
matrix_in names free l k w = matrix_of names free l.pier l.sheets l.used l.settings k w

-- what the functions of a fit are lent, the stars as one
abbrev pub run_seen : ℕ → List ℕ → List ℕ → List Float → List Float → SightInputs → RunInputs
run_seen m names free dh dd l = run_inputs m names free dh dd l.pier l.sheets l.used l.settings

abbrev pub seen_of : RunInputs → SightInputs
seen_of l = sight_inputs l.pier l.sheets l.used l.settings
