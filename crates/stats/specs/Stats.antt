-- The statistics of a fit, as solver/stats.rs has them. Definitions only.
use Rattle.std.specs.Prelude.{ℕ, ◌+◌, ◌-◌, ◌*◌, max, ◌&&◌, cond, List, leb, pos, length, Float}
use Rattle.std.specs.Float.{binary64}
use Rattle.std.specs.Float.Ieee.{of_int, lt}
use Rattle.float.specs.Float.{◌⊕◌, ◌⊖◌, ◌⊗◌, ◌⊘◌, #0, #1, #2, abs}
use Rattle.sqrt.specs.Sqrt as Root
use Rattle.sequence.specs.Sequence.{at, sum_to, dot}
use Rattle.solver.specs.declared.ObsDiagnostic.{ObsDiagnostic}
use Rattle.solver.specs.declared.SigmaBy.{SigmaBy}
use Rattle.solver.specs.declared.SigmaBy.TheVariants.{Stars, Rows}
use Rattle.stats.specs.declared.Sky.{Sky}
use Rattle.design.specs.Design.{Star, sky_rows}

abbrev pub sqrt : Float → Float
sqrt x = Root.sqrt binary64 x

-- a count as a float
abbrev pub count : ℕ → Float
count n = of_int binary64 (pos n)

-- so many less the parameters, and at least 1
abbrev pub degrees : ℕ → ℕ → ℕ
degrees n k = max (n - k) 1

-- the residuals' squares over a divisor
unfoldable pub variance : List Float → ℕ → Float
variance r dof = dot r r ⊘ count dof

-- ---- on the sky

-- dx·dx + dd·dd of star i, of the residuals on the sky, two a star: dx is the hour-angle residual times cos dec
abbrev pub sky_square : List Float → ℕ → Float
sky_square sky i =
    let dx = at sky (2 * i) in
    let dd = at sky (2 * i + 1) in
    dx ⊗ dx ⊕ dd ⊗ dd

-- sum_sq_sky: one sum, in order
unfoldable pub sum_sq_sky : List Star → List Float → Float
sum_sq_sky ss r = sum_to (length ss) (sky_square (sky_rows ss r))

-- the RMS of n stars, from that sum
abbrev pub rms_of : ℕ → Float → Float
rms_of n sum = cond (leb n 0) #0 (sqrt (sum ⊘ count n))

-- 0 where there are no more stars than free terms
abbrev pub sd_of : ℕ → ℕ → Float → Float
sd_of n nFree sum = cond (leb n nFree) #0 (sqrt (sum ⊘ count (n - nFree)))

abbrev pub sky_of_sum : ℕ → ℕ → Float → Sky
sky_of_sum n nFree sum = record { rms = rms_of n sum; popn_sd = sd_of n nFree sum }

-- compute_sky_rms and compute_popn_sd
unfoldable pub sky_from : List Star → ℕ → List Float → Sky
sky_from ss nFree r = sky_of_sum (length ss) nFree (sum_sq_sky ss r)

-- ---- sigma

-- its divisor, of n stars: stars less rank, or rows less rank
abbrev pub divisor : SigmaBy → ℕ → ℕ → ℕ
divisor Stars n rank = degrees n rank
divisor Rows n rank = degrees (2 * n) rank

-- that of the i-th free term, from the covariance diagonal
abbrev pub sigma_at : Float → List Float → ℕ → Float
sigma_at s2 cov i = sqrt (abs (s2 ⊗ at cov i))

-- ---- diagnostics

-- `x.clamp(0.0, 1.0)`: a NaN stays
unfoldable pub clamped : Float → Float
clamped x = cond (lt x #0) #0 (cond (lt #1 x) #1 x)

unfoldable pub studentized_row : Float → Float → Float → Float
studentized_row s r h = cond (lt #0 s && lt h #1) (r ⊘ (s ⊗ sqrt (#1 ⊖ h))) #0

-- of a star with residuals rHa and rDec, whose rows have the leverages lHa and lDec
unfoldable pub diagnostic : Float → Float → Float → Float → Float → ObsDiagnostic
diagnostic s rHa rDec lHa lDec =
    let hHa = clamped lHa in
    let hDec = clamped lDec in
    let tHa = studentized_row s rHa hHa in
    let tDec = studentized_row s rDec hDec in
    record {
      residual_sky = sqrt (rHa ⊗ rHa ⊕ rDec ⊗ rDec);
      leverage = hHa ⊕ hDec;
      studentized = sqrt ((tHa ⊗ tHa ⊕ tDec ⊗ tDec) ⊘ #2);
    }
