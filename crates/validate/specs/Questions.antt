-- The questions that a fit is put, in the order of docs/SCOPE.md 10.2. Definitions only.
use Rattle.std.specs.Prelude.{ℕ, ◌+◌, ◌*◌, ◌≤◌, ◌≡◌, Bool, false, ◌&&◌, List, [], ◌∷◌, ◌++◌, leb, ltb, eqb, length, Result, Ok, ⊤}
use Rattle.limits.specs.Limits.{max_terms, max_stars, slot_bytes, sheet_numbers}
use Rattle.float.specs.Float.{#0, is_finite}
use Rattle.refusal.specs.declared.Refusal.{Refusal}
use Rattle.refusal.specs.declared.Refusal.TheVariants.{Limits, Lengths, Room, NotFinite, Code, IterationLimit, NoTerm, NoFreeTerm, TooFewStars}
use Rattle.refusal.specs.Questions.{Question, ask, asked, and_then}
use Rattle.sequence.specs.Sequence.{every}
use Rattle.terms.specs.Slots.{names_read}
use Rattle.design.specs.Design.{RunInputs, collect_indices, run_inputs, run_inputs_of}
use Rattle.design.specs.Counted.{Counted}
use Rattle.solver.specs.declared.IterOptions.{IterOptions}
use Rattle.solver.specs.declared.Settings.{Settings}
use Rattle.solver.specs.declared.Sizes.{Sizes}
use Rattle.solver.specs.Call.{FitInputs}

-- ---- the questions one by one; m counts the coefficients lent, n the hour-angle differences

-- 1: at most 32 terms and 1,024 stars
unfoldable pub in_limits : ℕ → ℕ → Bool
in_limits m n = leb m max_terms && leb n max_stars

-- 2: exactly as many name bytes, flags, declination differences, pier codes and sheet numbers as belong to them
unfoldable pub counts : ℕ → ℕ → ℕ → ℕ → ℕ → ℕ → ℕ → Bool
counts names fixed dd pier sheets m n = eqb names (slot_bytes * m) && eqb fixed m && eqb dd n && eqb pier n && eqb sheets (sheet_numbers * n)

abbrev pub counts_in : FitInputs → Bool
counts_in l =
    counts (length l.names) (length l.fixed) (length l.dd) (length l.pier) (length l.sheets) (length l.coefficients) (length l.dh)

-- what scratch needs
unfoldable pub scratch_needed : ℕ → ℕ → ℕ
scratch_needed m n = (2 * n + 3 * m) * m + 8 * n + 8 * m

-- 3: room in the buffers
unfoldable pub enough_room : Sizes → ℕ → ℕ → Bool
enough_room s m n =
    leb m s.coefficients && leb m s.change && leb m s.sigma && leb (3 * n) s.diagnostics && leb (scratch_needed m n) s.scratch

-- 4: every lent float is finite
unfoldable pub finite_settings : Settings → Bool
finite_settings c = every is_finite (c.sin_lat ∷ c.cos_lat ∷ c.fit_tol ∷ [])

unfoldable pub finite_input : FitInputs → Bool
finite_input l =
    every is_finite l.coefficients && every is_finite l.dh && every is_finite l.dd && every is_finite l.sheets && finite_settings l.settings

unfoldable pub finite_options : IterOptions → Bool
finite_options o = every is_finite (o.tol_rad ∷ o.initial_lambda ∷ o.lambda_up ∷ o.lambda_down ∷ o.huber_k ∷ [])

-- 5: each pier code 0 to 2, each fixed flag 0 or 1
unfoldable pub codes_known : List ℕ → List ℕ → Bool
codes_known pier fixed = every (λ c. ltb c 3) pier && every (λ f. ltb f 2) fixed

-- 12 and 13: how many terms are free
abbrev pub free_count : List ℕ → ℕ
free_count fixed = length (collect_indices fixed)

-- ---- in order

-- where all are answered yes, or the refusal of the first that isn't
abbrev pub answered : List Question → Result ⊤ Refusal
answered qs = asked qs (Ok tt)

-- 1 to 3, of lengths alone
abbrev pub sizes_asked : FitInputs → Sizes → List Question
sizes_asked l s =
    let m = length l.coefficients in
    let n = length l.dh in
    ask (in_limits m n) Limits ∷ ask (counts_in l) Lengths ∷ ask (enough_room s m n) Room ∷ []

-- 1 to 4, of lengths and numbers
abbrev pub numbers_asked : FitInputs → IterOptions → Sizes → List Question
numbers_asked l o s = sizes_asked l s ++ (ask (finite_input l && finite_options o) NotFinite ∷ [])

-- 5 and 6, of codes and the limit
abbrev pub codes_asked : List ℕ → List ℕ → ℕ → List Question
codes_asked pier fixed limit = ask (codes_known pier fixed) Code ∷ ask (leb limit 1000) IterationLimit ∷ []

-- 11 to 13, of flags, m and n
abbrev pub free_asked : List ℕ → ℕ → ℕ → List Question
free_asked fixed m n =
    let free = free_count fixed in
    ask (ltb 0 m) NoTerm ∷ ask (ltb 0 free) NoFreeTerm ∷ ask (leb free n) TooFewStars ∷ []

-- 7 to 13, of names, flags, m and n
abbrev pub terms_asked : List ℕ → List ℕ → ℕ → ℕ → Result ⊤ Refusal
terms_asked names fixed m n = and_then (names_read names m) (λ _. answered (free_asked fixed m n))

unfoldable pub asked_of : FitInputs → IterOptions → Sizes → Result ⊤ Refusal
asked_of l o s =
    and_then (answered (numbers_asked l o s))
    (λ _. and_then (answered (codes_asked l.pier l.fixed o.max_iter)) (λ _. terms_asked l.names l.fixed (length l.coefficients) (length l.dh)))

-- the single step takes no options: these pass questions 4 and 6
abbrev pub no_options : IterOptions
no_options =
    record {
      max_iter = 0;
      tol_rad = #0;
      initial_lambda = #0;
      lambda_up = #0;
      lambda_down = #0;
      robust = false;
      huber_k = #0;
    }

-- what a fit's functions are lent of a call, of some free terms and the stars that count
abbrev pub run_with : FitInputs → List ℕ → List ℕ → RunInputs
run_with l free used = run_inputs (length l.coefficients) l.names free l.dh l.dd l.pier l.sheets used l.settings

-- ---- what a fit may count on once its questions are passed

pub record Ready (l : FitInputs) (s : Sizes) : Type 0 where
  pub counted : Counted (run_inputs_of l)
  pub fixed_count : length l.fixed ≡ length l.coefficients
  pub coefficients_room : length l.coefficients ≤ s.coefficients
  pub change_room : length l.coefficients ≤ s.change
  pub sigma_room : length l.coefficients ≤ s.sigma
  pub diagnostics_room : 3 * length l.dh ≤ s.diagnostics
  pub scratch_room : scratch_needed (length l.coefficients) (length l.dh) ≤ s.scratch
