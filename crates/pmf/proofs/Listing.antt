-- What is read of a file, and the text that is written of it. Assumes nothing.
use Prim.Native.Nat.{ℕ, ◌+◌, ◌*◌}
use native.Mathlib.Omega.{arith}
use mathlib.Core.Path.{◌≡◌, sym, ap, subst, ◌∙◌}
use mathlib.Core.List.{List, ◌++◌}
use lib.ListN.{length, drop, replicate, length-replicate}
use lib.Seq.{sets-eq}
use lib.Ieee.{Float}
use Rattle.std.specs.Prelude.{Result, Ok, Err, ⊤}
use Rattle.limits.specs.Limits.{slot_bytes}
use Rattle.float.specs.Float.{#0}
use Rattle.refusal.specs.declared.Refusal.{Refusal}
use Rattle.refusal.specs.Refusal.{number_of}
use Rattle.sequence.specs.Sequence.{part}
use Rattle.listing.specs.Text.{Wrote}
use Rattle.listing.specs.Listing.{fit_text, refusal_text}
use Rattle.solver.specs.declared.FitResult.{FitResult}
use Rattle.solver.specs.declared.IterOptions.{IterOptions}
use Rattle.solver.specs.declared.Settings.{Settings}
use Rattle.solver.specs.declared.Sizes.{Sizes}
use Rattle.solver.specs.Call.{FitInputs, Buffers, inputs, buffers, sizes_of}
use Rattle.validate.specs.Questions.{scratch_needed, asked_of, Ready}
use Rattle.validate.proofs.Passed.{ready}
use Rattle.outcome.specs.Outcome.{outcome}
use Rattle.pmf.specs.declared.Header.{Header}
use Rattle.pmf.specs.declared.Mode.{Mode}
use Rattle.pmf.specs.File.{file_terms, file_stars, names_place, flags_place, dh_place, dd_place}
use Rattle.pmf.specs.File.{coefficients_of, differences_of, piers_of, sheets_of, settings_in, input_of}
use Rattle.pmf.specs.Pmf.{WellFormed, room, fit_of, outcome_of, outcome_text, written}

-- the fields of a file whose header is read are its input
pub input_is : {coefficients dh dd sheets : List Float} {names fixed pier : List ℕ} {c : Settings} (s : List ℕ) (h : Header) → WellFormed s h
    → names ≡ part s names_place (slot_bytes * h.terms) → fixed ≡ part s (flags_place h.terms) h.terms → coefficients ≡ coefficients_of s h.terms
    → dh ≡ differences_of s h.stars (dh_place h.terms) → dd ≡ differences_of s h.stars (dd_place h.terms) → pier ≡ piers_of s h.terms h.stars
    → sheets ≡ sheets_of s h.terms h.stars → c ≡ settings_in s → inputs names fixed coefficients dh dd pier sheets c ≡ input_of s
unfolding input_of
input_is s h w en ef ec eh ed ep es et = rw (en, ef, ec, eh, ed, ep, es, et, w.terms_are, w.stars_are)

-- ---- the fit's buffers

abbrev room_sizes : Sizes
room_sizes = record { coefficients = file_terms; change = file_terms; sigma = file_terms; diagnostics = 300; scratch = 4896 }

room_sizes_lem : sizes_of room ≡ room_sizes
unfolding room scratch_needed
room_sizes_lem = rw (length-replicate file_terms #0, length-replicate (3 * file_stars) #0, length-replicate (scratch_needed file_terms file_stars) #0)

module _ (mode : Mode) (l : FitInputs) (o : IterOptions) (r : Result ⊤ Refusal) (e : r ≡ asked_of l o room_sizes) where
  pub asked_no : (why : Refusal) → r ≡ Err why → outcome_text l (outcome_of mode l o) ≡ refusal_text (number_of why)
  unfolding outcome_of
  asked_no why q = rw (room_sizes_lem, ← e, q)

  pub asked_pass : r ≡ Ok tt → outcome_text l (outcome_of mode l o) ≡ outcome_text l (fit_of mode l o room)
  unfolding outcome_of
  asked_pass q = rw (room_sizes_lem, ← e, q)

  pub asked_ready : r ≡ Ok tt → Ready l (sizes_of room)
  asked_ready q = rw room_sizes_lem (ready l o room_sizes r q e)

module _ {a b c d w : List Float} (ea : a ≡ replicate file_terms #0) (eb : b ≡ replicate file_terms #0) (ec : c ≡ replicate file_terms #0)
    (ed : d ≡ replicate (3 * file_stars) #0) (ew : w ≡ replicate 4896 #0) where
  -- buffers that hold zeros
  room-is : buffers a b c d w ≡ room
  unfolding room scratch_needed
  room-is = rw (ea, eb, ec, ed, ew)

  pub room_ready : (l : FitInputs) → Ready l (sizes_of room) → Ready l (sizes_of (buffers a b c d w))
  room_ready l h = subst (λ (x : Buffers). Ready l (sizes_of x)) (sym room-is) h

  -- the text of a fit made in them
  pub fit_text_lem : (mode : Mode) (l : FitInputs) (o : IterOptions) {a' b' c' d' w' : List Float} (r : FitResult)
      → outcome (Ok r) (buffers a' b' c' d' w') ≡ fit_of mode l o (buffers a b c d w)
      → outcome_text l (fit_of mode l o room) ≡ fit_text l.names (length l.coefficients) a' c' r
  fit_text_lem mode l o r e = ap (outcome_text l) (ap (fit_of mode l o) (sym room-is) ∙ sym e)

-- ---- the text in a buffer

pub into : {text d is : List ℕ} {n : ℕ} → Wrote text 0 d is n → record { count = n; buffer = is } ≡ written text d
into {text} {d} {is} {n} w =
    let z : 0 + length text ≡ length text = omega arith in
    let e : n ≡ length text = omega (arith, w.end) in
    let q : is ≡ text ++ drop (length text) d = w.buffer ∙ sets-eq text d 0 (omega (arith, w.end, w.room)) ∙ ap (λ (k : ℕ). text ++ drop k d) z in
    rw (e, q)
