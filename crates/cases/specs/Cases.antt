-- The cases of docs/SCOPE.md 12.1 as one table. Starred there: every row but the last five, HXSHCD2, TX2 and the four stars, and the one before
-- them, the iterated file case.
-- Definitions only.
use Rattle.std.specs.Prelude.{ℕ, zero, suc, ◌+◌, ◌*◌, ◌≡◌, Bool, true, false, List, [], ◌∷◌, ◌++◌, map, length, replicate, Float, Result, Ok, Err}
use Prim.Native.String.{String}
use Rattle.std.specs.Float.{inf, binary64}
use Rattle.std.specs.Float.Ieee.{of_bits, neg}
use Rattle.float.specs.Float.{#0, #1, #2}
use Rattle.sequence.specs.Sequence.{at, table}
use Rattle.observation.specs.Observation.{pair_of}
use Rattle.observation.specs.declared.Pair.{Pair}
use Rattle.equatorial.specs.declared.EquatorialTerm.TheVariants.{IH, TXN, HCES}
use Rattle.harmonic.specs.Table.{ascii}
use Rattle.harmonic.specs.Harmonic.{array_of}
use Rattle.harmonic.specs.declared.TrigFunc.{TrigFunc}
use Rattle.harmonic.specs.declared.Coordinate.{Coordinate}
use Rattle.harmonic.specs.declared.ResultType.{ResultType}
use Rattle.harmonic.specs.declared.HarmonicComponent.{HarmonicComponent}
use Rattle.refusal.specs.Refusal.{number_of}
use Rattle.refusal.specs.declared.Refusal.{Refusal}
use Rattle.terms.specs.Names.{padded, read_term, named, term_or_blank}
use Rattle.terms.specs.Jacobian.{jacobian_of}
use Rattle.terms.specs.declared.TermKind.{TermKind}
use Rattle.terms.specs.declared.TermKind.TheVariants.{Equatorial, Harmonic}
use Rattle.terms.specs.declared.Term.{Term}
use Rattle.solver.specs.declared.FitResult.{FitResult}
use Rattle.solver.specs.Call.{FitInputs, Buffers, settings_of, inputs, buffers}
use Rattle.validate.specs.Questions.{scratch_needed}
use Rattle.solver.specs.Records.{defaults}
use Rattle.solver.specs.declared.IterOptions.{IterOptions}
use Rattle.solver.specs.declared.SigmaBy.{SigmaBy}
use Rattle.solver.specs.declared.SigmaBy.TheVariants.{Stars, Rows}
use Rattle.stats.specs.Stats.{divisor}
use Rattle.outcome.specs.Outcome.{Outcome}
use Rattle.single_step.specs.SingleStep.{fit_outcome}
use Rattle.iterated.specs.Iterated.{iterated_outcome}

-- an answer of a public call: a term, or whether it is pier sensitive, or its Jacobian; of a fit the coefficients and the rank, or the coefficients, the
-- sky RMS and each star's leverage, or sigma's divisor and the sigmas, or the coefficients, the iterations, whether it converged, and the step norm; with
-- the first and the last of these also the sweeps, and whether they settled; or a refusal's number
pub data Answer : Type 0 where
  reading : Term → Answer
  sensitive : Bool → Answer
  jacobian : Pair → Answer
  refusal : ℕ → Answer
  ranked : List Float → ℕ → ℕ → Bool → Answer
  measured : List Float → Float → List Float → Answer
  divided : ℕ → List Float → Answer
  looped : List Float → ℕ → Bool → Float → ℕ → Bool → Answer

-- what is shown of an answer, or of a refusal
abbrev pub shown : {A : Type 0} → (A → Answer) → Result A Refusal → Answer
shown f (Ok a) = f a
shown f (Err why) = refusal (number_of why)

pub record Case : Type 0 where
  pub got : Answer
  pub wanted : Answer

-- ---- readings

abbrev pub slot_of : String → List ℕ
slot_of s = padded (ascii s)

-- the name s in its slot is read so
abbrev pub reads : String → Answer → Case
reads s a = record { got = shown reading (read_term (slot_of s)); wanted = a }

-- the term of a kind and a stored name
abbrev pub term : TermKind → String → Answer
term kind s = reading (named kind (slot_of s))

-- the term of the name s is pier sensitive, or not
abbrev pub turns : String → Bool → Case
turns s b = record { got = sensitive (term_or_blank (read_term (slot_of s))).pier_sensitive; wanted = sensitive b }

abbrev component : TrigFunc → Coordinate → ℕ → HarmonicComponent
component f c k = record { func = f; coord = c; frequency = k }

-- ---- Jacobians

abbrev pub half : Float
half = of_bits binary64 0x3fe0_0000_0000_0000

-- a sheet whose cos dec is c, every other number 0
abbrev pub sheet : Float → List Float
sheet c = replicate 19 #0 ++ (c ∷ replicate 17 #0)

abbrev pub west : ℕ
west = 2

abbrev pub east : ℕ
east = 1

-- the name s at such a sheet and the latitude 0 has the Jacobian p
abbrev pub has_jacobian : String → Float → ℕ → Pair → Case
has_jacobian s c pier p = record { got = shown jacobian (jacobian_of (slot_of s) (sheet c) #0 #1 pier); wanted = jacobian p }

-- ---- fits

abbrev pub #5 : Float
#5 = of_bits binary64 0x4014_0000_0000_0000

abbrev pub #10 : Float
#10 = of_bits binary64 0x4024_0000_0000_0000

abbrev pub #15 : Float
#15 = of_bits binary64 0x402e_0000_0000_0000

abbrev pub #20 : Float
#20 = of_bits binary64 0x4034_0000_0000_0000

abbrev pub quarter : Float
quarter = of_bits binary64 0x3fd0_0000_0000_0000

abbrev pub twice : List Float → List Float
twice l = l ++ l

-- the sheet whose sines and tan are 0 and whose cosines are 1
abbrev pub still : List Float
still = let pair = #0 ∷ #1 ∷ [] in let eight = twice (twice (twice pair)) in twice (eight ++ pair) ++ (#0 ∷ [])

abbrev pub stills : ℕ → List Float
stills zero = []
stills (suc n) = still ++ stills n

-- ID free at 0, and East stars with that sheet, with hour-angle differences 0 and these declination differences; latitude 0, fit_tol 0
abbrev pub run : List Float → FitInputs
run dd =
    let n = length dd in
    inputs (slot_of "ID") (0 ∷ []) (#0 ∷ []) (replicate n #0) dd (replicate n east) (stills n) (settings_of #0 #1 #0)

-- buffers of just the size
abbrev pub exact_room : ℕ → Buffers
exact_room n = buffers (#0 ∷ []) (#0 ∷ []) (#0 ∷ []) (replicate (3 * n) #0) (replicate (scratch_needed 1 n) #0)

abbrev pub stepped : SigmaBy → List Float → Outcome
stepped by dd = fit_outcome (run dd) by (exact_room (length dd))

abbrev pub ranked_by : Result FitResult Refusal → List Float → Answer
ranked_by a cs = shown (λ r. ranked cs r.rank_info.rank r.sweeps r.settled) a

abbrev pub measured_by : Result FitResult Refusal → List Float → List Float → Answer
measured_by a cs ls = shown (λ r. measured cs r.sky_rms ls) a

-- the file case
abbrev pub file_case : Case
file_case = let o = stepped Stars (neg #10 ∷ []) in record { got = ranked_by o.answer o.left.coefficients; wanted = ranked (#10 ∷ []) 1 1 true }

-- the file case iterated, with the default options but for a limit of 0
abbrev pub at_once : IterOptions
at_once = record {
  max_iter = 0;
  tol_rad = defaults.tol_rad;
  initial_lambda = defaults.initial_lambda;
  lambda_up = defaults.lambda_up;
  lambda_down = defaults.lambda_down;
  robust = false;
  huber_k = defaults.huber_k;
}

abbrev pub looped_by : Result FitResult Refusal → List Float → Answer
looped_by a cs =
    shown (λ r. looped cs r.iter_report.iterations r.iter_report.converged r.iter_report.final_step_norm r.sweeps r.settled) a

abbrev pub file_case_iterated : Case
file_case_iterated =
    let o = iterated_outcome (run (neg #10 ∷ [])) Stars at_once (exact_room 1) in
    record { got = looped_by o.answer o.left.coefficients; wanted = looped (#10 ∷ []) 0 false (inf false) 1 true }

-- the second of each star's three diagnostics
abbrev pub leverages : ℕ → List Float → List Float
leverages n d = table n (λ i. at d (3 * i + 1))

-- the declination differences of the four stars
abbrev pub four : List Float
four = neg #10 ∷ neg #20 ∷ neg #10 ∷ neg #20 ∷ []

abbrev pub four_stars : Case
four_stars =
    let o = stepped Stars four in
    record { got = measured_by o.answer o.left.coefficients (leverages 4 o.left.diagnostics); wanted = measured (#15 ∷ []) #5 (replicate 4 quarter) }

abbrev pub divided_by : SigmaBy → ℕ → Result FitResult Refusal → List Float → Answer
divided_by by n a sigmas = shown (λ r. divided (divisor by n r.rank_info.rank) sigmas) a

-- the four stars by either: the squares of their residuals are 100, the covariance is 1/4
abbrev pub four_stars_by : SigmaBy → ℕ → Float → Case
four_stars_by by dof sigma =
    let o = stepped by four in
    record { got = divided_by by (length four) o.answer o.left.sigma; wanted = divided dof (sigma ∷ []) }

-- sqrt(100/3 / 4) and sqrt(100/7 / 4), rounded where the definition of sigma rounds
abbrev pub sigma_by_stars : Float
sigma_by_stars = of_bits binary64 0x4007_1811_16f4_3fe4

abbrev pub sigma_by_rows : Float
sigma_by_rows = of_bits binary64 0x3ffe_3cb6_6051_f5e0

-- ---- the table

abbrev pub starred_cases : List Case
starred_cases =
    reads "ih" (term (Equatorial IH) "IH") ∷
    reads "tx+05" (term (Equatorial (TXN 5)) "TX5") ∷
    reads "TX0" (refusal 9) ∷
    reads "TX256" (refusal 9) ∷
    reads "" (refusal 7) ∷
    reads "NPAE" (refusal 8) ∷
    reads "HCES" (term (Equatorial HCES) "HCES") ∷
    reads "HHS" (refusal 10) ∷
    reads "HHSH0" (refusal 10) ∷
    reads "HHSH12" (refusal 10) ∷
    has_jacobian "CH" half west (pair_of #2 #0) ∷
    has_jacobian "IH" #1 east (pair_of (neg #1) #0) ∷
    turns "ID" true ∷
    turns "CH" true ∷
    turns "NP" true ∷
    turns "HPSH" true ∷
    turns "MA" false ∷
    turns "HHSH" false ∷
    file_case ∷
    file_case_iterated ∷
    reads "HXSHCD2"
    (term
    (Harmonic (record { result = ResultType.X; components = array_of (component TrigFunc.Sin Coordinate.H 1 ∷ component TrigFunc.Cos Coordinate.D 2 ∷ []) }))
    "HXSHCD2") ∷
    has_jacobian "TX2" #1 east (pair_of #0 #0) ∷
    four_stars ∷
    four_stars_by Stars 3 sigma_by_stars ∷
    four_stars_by Rows 7 sigma_by_rows ∷
    []

-- each row's answer is what the definitions of the public calls give: proofs/Starred.antt
abbrev pub Starred : Type 0
Starred = map (λ (r : Case). r.got) starred_cases ≡ map (λ (r : Case). r.wanted) starred_cases
