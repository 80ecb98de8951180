-- What a fit is lent and the buffers that it fills. Definitions only.
use Rattle.std.specs.Prelude.{ℕ, List, length, Float}
use Rattle.solver.specs.declared.Settings.{Settings}
use Rattle.solver.specs.declared.Sizes.{Sizes}

-- the input: names in slots of 16 bytes, flags and coefficients, a term each; raw differences, pier codes and sheets, a star each
pub record FitInputs : Type 0 where
  pub names : List ℕ
  pub fixed : List ℕ
  pub coefficients : List Float
  pub dh : List Float
  pub dd : List Float
  pub pier : List ℕ
  pub sheets : List Float
  pub settings : Settings

-- the content of the buffers
pub record Buffers : Type 0 where
  pub coefficients : List Float
  pub change : List Float
  pub sigma : List Float
  pub diagnostics : List Float
  pub scratch : List Float

abbrev pub settings_of : Float → Float → Float → Settings
settings_of sinLat cosLat fitTol = record { sin_lat = sinLat; cos_lat = cosLat; fit_tol = fitTol }

abbrev pub inputs : List ℕ → List ℕ → List Float → List Float → List Float → List ℕ → List Float → Settings → FitInputs
inputs names fixed coefficients dh dd pier sheets settings =
    record { names = names; fixed = fixed; coefficients = coefficients; dh = dh; dd = dd; pier = pier; sheets = sheets; settings = settings }

abbrev pub buffers : List Float → List Float → List Float → List Float → List Float → Buffers
buffers coefficients change sigma diagnostics scratch =
    record { coefficients = coefficients; change = change; sigma = sigma; diagnostics = diagnostics; scratch = scratch }

-- those with another scratch
abbrev pub with_scratch : List Float → Buffers → Buffers
with_scratch w b = buffers b.coefficients b.change b.sigma b.diagnostics w

-- how long they are
abbrev pub sizes_of : Buffers → Sizes
sizes_of b =
    record {
      coefficients = length b.coefficients;
      change = length b.change;
      sigma = length b.sigma;
      diagnostics = length b.diagnostics;
      scratch = length b.scratch;
    }
