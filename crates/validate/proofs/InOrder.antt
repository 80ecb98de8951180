-- What the questions' answers say, part by part. Assumes nothing.
use Prim.Native.Nat.{◌*◌}
use mathlib.Core.Path.{◌≡◌}
use lib.ListN.{length}
use Rattle.std.specs.Prelude.{Ok, Err, ⊤}
use Rattle.refusal.specs.declared.Refusal.{Refusal}
use Rattle.refusal.specs.declared.Refusal.TheVariants.{Limits, Lengths, Room, NotFinite, Code, IterationLimit, NotAName, AltAzTerm, UnknownTerm}
use Rattle.refusal.specs.declared.Refusal.TheVariants.{MalformedHarmonic, NoTerm, NoFreeTerm, TooFewStars, FullModel, NotAFile}
use Rattle.refusal.specs.Refusal.{number_of}
use Rattle.solver.specs.declared.IterOptions.{IterOptions}
use Rattle.solver.specs.declared.Sizes.{Sizes}
use Rattle.solver.specs.Call.{FitInputs}
use Rattle.validate.specs.Questions.{answered, numbers_asked, asked_of}
use Rattle.validate.proofs.Laws.{counts_facts, first_yes}

module _ (l : FitInputs) (o : IterOptions) (s : Sizes) where
  -- lengths that pass: 16 name bytes for each term
  pub sized : (u : ⊤) → answered (numbers_asked l o s) ≡ Ok u → length l.names ≡ 16 * length l.coefficients
  sized u e =
      let one = first_yes _ _ _ u e in
      let two = first_yes _ _ _ u one.1 in
      (counts_facts l two.0).names_count

  -- a refusal's number is never 0
  pub no_has_number : (k : Refusal) → Err k ≡ asked_of l o s → number_of k ≡ 0 → ⊥
  no_has_number Limits e = λ z. cc
  no_has_number Lengths e = λ z. cc
  no_has_number Room e = λ z. cc
  no_has_number NotFinite e = λ z. cc
  no_has_number Code e = λ z. cc
  no_has_number IterationLimit e = λ z. cc
  no_has_number NotAName e = λ z. cc
  no_has_number AltAzTerm e = λ z. cc
  no_has_number UnknownTerm e = λ z. cc
  no_has_number MalformedHarmonic e = λ z. cc
  no_has_number NoTerm e = λ z. cc
  no_has_number NoFreeTerm e = λ z. cc
  no_has_number TooFewStars e = λ z. cc
  no_has_number FullModel e = λ z. cc
  no_has_number NotAFile e = λ z. cc
