-- What a reader may count on: the models that the calls make pass every question and have their names' flags, a breakdown sums to the correction and
-- shows those flags, a correction uses the coefficients that were set, and a term that is added twice, however it is spelled, is added once.
-- Assumes nothing.
use Prim.Native.Nat.{ℕ, ◌+◌, ◌*◌, ◌≤◌, ◌<◌}
use native.Mathlib.Numerals.{add-one}
use native.Mathlib.Omega.{arith}
use mathlib.Core.Path.{◌≡◌, refl, sym, ◌∙◌, ap, ap₂, subst}
use mathlib.Core.Bool.{Bool, true, false, cond, ◌||◌}
use mathlib.Core.List.{List}
use borrow.Author.Tests.{eqb-true, eq-eqb, ltb-true}
use lib.Dec.{eqb, ltb}
use lib.ListN.{length, get_or, take}
use lib.Seq.{take_all, take-suc-set, length-take-le, length-sets}
use lib.Ieee.{Float}
use Rattle.std.specs.Prelude.{Result, Ok}
use Rattle.refusal.specs.declared.Refusal.{Refusal}
use Rattle.refusal.specs.declared.Refusal.TheVariants.{FullModel}
use Rattle.float.specs.Float.{#0, is_finite}
use Rattle.sequence.specs.Sequence.{every, at, filled, sum_to}
use Rattle.observation.specs.Observation.{pair_of}
use Rattle.float.proofs.Zero.{zero_finite}
use Rattle.sequence.proofs.Tests.{every-snoc, some_last, some_stop}
use Rattle.sequence.proofs.Parts.{part-take, part_sets_same, part_sets_below}
use Rattle.sequence.proofs.Fills.{filled_at, at-filled, take-filled, table_front, filled_again, filled_own}
use Rattle.sequence.proofs.Sums.{sum_same}
use Rattle.terms.specs.Names.{same, read_term, term_or_blank}
use Rattle.terms.specs.Slots.{slot, all_ok, names_read}
use Rattle.terms.specs.declared.Term.{Term}
use Rattle.terms.proofs.First.{ok_step, ok_same}
use Rattle.terms.proofs.Same.{same_itself}
use Rattle.model.specs.Slots.{no_numbers, no_flags, term_at, has_name, pier_at}
use Rattle.model.specs.Model.{new_model, terms_asked, term_names, term_coefficients, model_asked, with_term, with_coefficients}
use Rattle.model.specs.Model.{flagged, term_added, adding, setting, add_term, set_coefficients, FlagsAreNames}
use Rattle.model.specs.Correction.{corrected, correction_at, correction, broken_down, breakdown_at}
use Rattle.model.specs.declared.PointingModel.{PointingModel}
use Rattle.model.specs.declared.Breakdown.{Breakdown}
use Rattle.model.proofs.Laws.{Passed, passed, passes, accepted, went_on, yes, given_on}
use Rattle.model.proofs.Stored.{read_stored}

-- ---- a model that passes every question

abbrev pub Passes : PointingModel → Type 0
Passes m = model_asked m true true true ≡ Ok tt

pub new_passes : Passes new_model
unfolding terms_asked all_ok
new_passes = refl

-- what a model has that passes with something else that a call takes
abbrev PassedWith : PointingModel → Bool → Bool → Type 0
PassedWith m counted finite = Passed m.count (term_names m) (term_coefficients m) counted finite true

passed_with : (m : PointingModel) (counted finite : Bool) → model_asked m counted finite true ≡ Ok tt → PassedWith m counted finite
passed_with m counted finite = passed m.count (term_names m) (term_coefficients m) counted finite true

passes_with : (m : PointingModel) (counted finite : Bool) → PassedWith m counted finite → model_asked m counted finite true ≡ Ok tt
passes_with m counted finite = passes m.count (term_names m) (term_coefficients m) counted finite true

-- the same with something else that passes too
also : (m : PointingModel) (a b c d : Bool) → PassedWith m a b → c ≡ true → d ≡ true → PassedWith m c d
also m a b c d p e f =
    record { few = p.few; sized = p.sized; rest_counted = e; numbers = p.numbers; rest_finite = f; rest_known = refl; named = p.named }

-- ---- the flags of a model

pub new_flags : FlagsAreNames new_model
new_flags i h = absurd (omega arith)

flagged_flags : (m : PointingModel) → FlagsAreNames (flagged m)
flagged_flags m i h = filled_at (pier_at m.names) m.count i m.pier_sensitive false h

abbrev with_flags : PointingModel → List Bool → PointingModel
with_flags m l = record { names = m.names; coefficients = m.coefficients; pier_sensitive = l; count = m.count }

flagged_again : (m : PointingModel) → flagged (flagged m) ≡ flagged m
flagged_again m = ap (with_flags m) (filled_again (pier_at m.names) m.count m.pier_sensitive)

flagged_equal : (m : PointingModel) → m.count ≤ length m.pier_sensitive → FlagsAreNames m → flagged m ≡ m
flagged_equal m h e = ap (with_flags m) (filled_own (pier_at m.names) m.pier_sensitive false m.count h e)

-- ---- the sum of the breakdown, in order, is the correction, and its flags are those of the names

module _ (n : ℕ) (names : List ℕ) (coefficients sheet : List Float) (sinLat cosLat : Float) (pier : ℕ) (parts : Breakdown)
    (ok : breakdown_at n names coefficients sheet sinLat cosLat pier ≡ Ok parts) where
  pub breakdown_sums : correction_at n names coefficients sheet sinLat cosLat pier ≡ Ok (pair_of (sum_to n (at parts.dh)) (sum_to n (at parts.dd)))
  unfolding breakdown_at correction_at corrected broken_down
  breakdown_sums =
      let e = accepted _ _ _ ok in
      rw (e.0, ← e.1)
      (ap₂ (λ (x y : Float). Ok (pair_of x y)) (sum_same n _ _ (λ i h. sym (at-filled _ n i no_numbers h)))
      (sum_same n _ _ (λ i h. sym (at-filled _ n i no_numbers h))))

  pub breakdown_flags : (i : ℕ) → i < n → get_or parts.pier_sensitive i false ≡ pier_at names i
  unfolding breakdown_at broken_down
  breakdown_flags i h = rw (← (accepted _ _ _ ok).1) (filled_at (pier_at names) n i no_flags false h)

-- ---- a correction after an accepted setting uses the new coefficients

module _ (m : PointingModel) (cs : List Float) (new : PointingModel) (ok : set_coefficients m cs ≡ Ok new) where
  set-answer : (model_asked m (eqb (length cs) m.count) (every is_finite cs) true ≡ Ok tt) × (flagged (with_coefficients m cs) ≡ new)
  unfolding setting set_coefficients
  set-answer = accepted _ _ _ (given_on m (setting m cs) new ok)

  set-facts : PassedWith m (eqb (length cs) m.count) (every is_finite cs)
  set-facts = passed_with m _ _ set-answer.0

  set_is : new ≡ flagged (with_coefficients m cs)
  set_is = sym set-answer.1

  front : take m.count (filled m.count (at cs) m.coefficients) ≡ cs
  front =
      let one_each = eqb-true (length cs) m.count set-facts.rest_counted in
      take-filled (at cs) m.count m.coefficients ∙ table_front m.count cs (omega (arith, one_each)) ∙ take_all m.count cs (omega (arith, one_each))

  pub set_passes : Passes new
  set_passes =
      let p = set-facts in
      rw set_is
      (passes_with (flagged (with_coefficients m cs)) true true
      (record {
        few = p.few;
        sized = p.sized;
        rest_counted = refl;
        numbers = ap (every is_finite) front ∙ p.rest_finite;
        rest_finite = refl;
        rest_known = refl;
        named = p.named;
      }))

  pub set_flags : FlagsAreNames new
  set_flags = rw set_is (flagged_flags (with_coefficients m cs))

  pub applied_after_set : (sheet : List Float) (sinLat cosLat : Float) (pier : ℕ)
      → correction new sheet sinLat cosLat pier ≡ correction_at m.count (term_names m) cs sheet sinLat cosLat pier
  applied_after_set sheet sinLat cosLat pier =
      ap (λ (x : PointingModel). correction x sheet sinLat cosLat pier) set_is
      ∙ ap (λ (l : List Float). correction_at m.count (term_names m) l sheet sinLat cosLat pier) front

-- ---- a term that is added twice is added once

-- a model that passes and has the term is left with its names' flags
again : (m : PointingModel) (name : List ℕ) (t : Term) → model_asked m (eqb (length name) 16) true true ≡ Ok tt → read_term name ≡ Ok t
    → has_name m.names m.count t.name ≡ true → add_term m name ≡ Ok (flagged m)
unfolding adding add_term
again m name t p r h = rw (p, r, h) refl

-- so a name of a term that is there changes nothing else, however either is spelled, and also where the model is full
module _ (m : PointingModel) (name : List ℕ) (t : Term) (i : ℕ) (p : Passes m) (l : length name ≡ 16) (r : read_term name ≡ Ok t) (h : i < m.count)
    (e : (term_at m.names i).name ≡ t.name) where
  pub there_already : add_term m name ≡ Ok (flagged m)
  there_already =
      again m name t (passes_with m _ true (also m true true _ true (passed_with m true true p) (eq-eqb (length name) 16 l) refl)) r
      (sym (some_stop _ i m.count h (ap (λ (l : List ℕ). same l t.name) e ∙ same_itself t.name)))

  -- and nothing at all where the model has its names' flags
  pub there_equal : length m.pier_sensitive ≡ 32 → FlagsAreNames m → add_term m name ≡ Ok m
  there_equal long f = there_already ∙ ap Ok (flagged_equal m (omega (arith, long, (passed_with m true true p).few)) f)

-- what an accepted name was found to be
record Taken (m : PointingModel) (name : List ℕ) (new : PointingModel) : Type 0 where
  asked : model_asked m (eqb (length name) 16) true true ≡ Ok tt
  term : Term
  read : read_term name ≡ Ok term
  answer : term_added m term ≡ Ok new

-- the lengths are those of the arrays
module _ (m : PointingModel) (name : List ℕ) (bytes : length m.names ≡ 512) (numbers : length m.coefficients ≡ 32) (new : PointingModel)
    (ok : add_term m name ≡ Ok new) where
  taken : Taken m name new
  unfolding adding add_term
  taken =
      let one = went_on _ _ _ (given_on m (adding m name) new ok) in
      let two = went_on _ _ _ one.2 in
      record { asked = one.1; term = two.0; read = two.1; answer = two.2 }

  abbrev stored : List ℕ
  stored = taken.term.name

  abbrev there : Bool
  there = has_name m.names m.count stored

  before : PassedWith m (eqb (length name) 16) true
  before = passed_with m _ true taken.asked

  has_room : (there || ltb m.count 32) ≡ true
  has_room = (yes _ _ FullModel new taken.answer).0

  add_is : new ≡ flagged (cond there m (with_term m stored))
  add_is =
      let e : ◌≡◌ {A = Result PointingModel Refusal} (Ok (flagged (cond there m (with_term m stored)))) (Ok new) = (yes _ _ FullModel new taken.answer).1 in
      cc

  module _ (fresh : there ≡ false) where
    room : m.count < 32
    room = ltb-true m.count 32 (rw fresh at has_room)

    abbrev longer : PointingModel
    longer = with_term m stored

    slot-last : slot longer.names m.count ≡ stored
    slot-last = part_sets_same m.names (16 * m.count) 16 stored (read_stored name taken.term taken.read).sixteen (omega (arith, room))

    -- the slots of the longer model among its terms' names, and those of the model
    slot-longer : (i : ℕ) → i < m.count + 1 → slot (term_names longer) i ≡ slot longer.names i
    slot-longer i h =
        part-take longer.names (16 * i) 16 (16 * (m.count + 1)) (omega arith) (omega (arith, room, length-sets m.names (16 * m.count) stored))

    slot-below : (i : ℕ) → i < m.count → slot (term_names longer) i ≡ slot (term_names m) i
    slot-below i h =
        slot-longer i (omega arith) ∙ part_sets_below m.names (16 * i) 16 (16 * m.count) stored (omega arith)
        ∙ sym (part-take m.names (16 * i) 16 (16 * m.count) (omega arith) (omega (arith, room)))

    longer-finite : every is_finite (term_coefficients longer) ≡ true
    longer-finite =
        rw (add-one m.count, take-suc-set m.coefficients m.count #0 (omega (arith, room)))
        (every-snoc is_finite (term_coefficients m) #0 before.numbers zero_finite)

    longer-named : names_read (term_names longer) (m.count + 1) ≡ Ok tt
    longer-named =
        let s = read_stored name taken.term taken.read in
        ok_step (λ i. read_term (slot (term_names longer) i)) m.count s.term (ok_same m.count _ _ (λ i h. ap read_term (slot-below i h)) ∙ before.named)
        (ap read_term (slot-longer m.count (omega arith) ∙ slot-last) ∙ s.read)

    longer-passes : PassedWith longer true true
    longer-passes =
        record {
          few = omega (arith, room);
          sized = length-take-le _ longer.names (omega (arith, room, length-sets m.names (16 * m.count) stored));
          rest_counted = refl;
          numbers = longer-finite;
          rest_finite = refl;
          rest_known = refl;
          named = longer-named;
        }

    longer-has : has_name longer.names (m.count + 1) stored ≡ true
    longer-has =
        let s = read_stored name taken.term taken.read in
        rw (add-one m.count)
        (some_last _ m.count
        (ap (λ (l : List ℕ). same (term_or_blank (read_term l)).name stored) slot-last
        ∙ ap (λ (r : Result Term Refusal). same (term_or_blank r).name stored) s.read ∙ ap (λ (l : List ℕ). same l stored) s.kept ∙ same_itself stored))

  abbrev Has : PointingModel → Type 0
  Has x = PassedWith x true true × (has_name x.names x.count stored ≡ true)

  passes-and-has : (t : Bool) → there ≡ t → Has (flagged (cond t m (with_term m stored)))
  passes-and-has true e = (also m _ true true true before refl refl, e)
  passes-and-has false e = (longer-passes e, longer-has e)

  known : Has new
  known = subst Has (sym add_is) (passes-and-has there refl)

  pub added_passes : Passes new
  added_passes = passes_with new true true known.0

  pub added_flags : FlagsAreNames new
  added_flags = subst FlagsAreNames (sym add_is) (flagged_flags (cond there m (with_term m stored)))

  flagged-already : flagged new ≡ new
  flagged-already = ap flagged add_is ∙ flagged_again (cond there m (with_term m stored)) ∙ sym add_is

  -- nor does any spelling of the same term
  pub added_again : (other : List ℕ) → length other ≡ 16 → read_term other ≡ read_term name → add_term new other ≡ Ok new
  added_again other l e =
      again new other taken.term (passes_with new _ true (also new true true _ true known.0 (eq-eqb (length other) 16 l) refl)) (e ∙ taken.read) known.1
      ∙ ap Ok flagged-already

  pub added_twice : add_term new name ≡ Ok new
  added_twice = added_again name (eqb-true _ 16 before.rest_counted) refl
