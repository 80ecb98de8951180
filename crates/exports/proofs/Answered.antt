-- What a call of a fit says of its answer as a C struct. Assumes nothing.
use mathlib.Core.Path.{◌≡◌, sym, ap, subst, ◌∙◌}
use mathlib.Core.List.{List}
use lib.ListN.{length, take}
use lib.Ieee.{Float}
use Rattle.std.specs.Prelude.{Result, Ok, Err}
use Rattle.refusal.specs.Refusal.{number_of}
use Rattle.refusal.specs.declared.Refusal.{Refusal}
use Rattle.refusal.specs.declared.Refusal.TheVariants.{Limits, Lengths, Room, NotFinite, Code, IterationLimit, NotAName, AltAzTerm, UnknownTerm}
use Rattle.refusal.specs.declared.Refusal.TheVariants.{MalformedHarmonic, NoTerm, NoFreeTerm, TooFewStars, FullModel, NotAFile}
use Rattle.solver.specs.declared.FitResult.{FitResult}
use Rattle.solver.specs.declared.IterOptions.{IterOptions}
use Rattle.solver.specs.Call.{FitInputs, Buffers}
use Rattle.outcome.specs.Outcome.{Outcome, outcome}
use Rattle.iterated.specs.Demand3.{Demand3, BestOfTried}
use Rattle.exports.specs.declared.fits.FitAnswer.{FitAnswer}
use Rattle.exports.specs.Fits.{fit_answer, exported, exported_of, BestWhereGiven}

-- no refusal's number is 0
number_not_zero : (why : Refusal) → number_of why ≡ 0 → ⊥
number_not_zero Limits e = cc
number_not_zero Lengths e = cc
number_not_zero Room e = cc
number_not_zero NotFinite e = cc
number_not_zero Code e = cc
number_not_zero IterationLimit e = cc
number_not_zero NotAName e = cc
number_not_zero AltAzTerm e = cc
number_not_zero UnknownTerm e = cc
number_not_zero MalformedHarmonic e = cc
number_not_zero NoTerm e = cc
number_not_zero NoFreeTerm e = cc
number_not_zero TooFewStars e = cc
number_not_zero FullModel e = cc
number_not_zero NotAFile e = cc

pub answered : (f : Result FitResult Refusal) (left : Buffers) (o : Outcome) (r : FitAnswer) → outcome f left ≡ o → r ≡ fit_answer f
    → exported r left ≡ exported_of o
answered f left o r p q = ap (λ (a : FitAnswer). exported a left) q ∙ ap exported_of p

refused_not_given : (l : FitInputs) (o : IterOptions) (why : Refusal) (r : FitAnswer) (out : List Float) → r ≡ fit_answer (Err why)
    → BestWhereGiven l o r out
refused_not_given l o why r out e z = absurd (number_not_zero why (sym (ap (λ (a : FitAnswer). a.refusal) e) ∙ z))

-- a struct without a refusal is that of an accepted fit
pub best_where_given : (l : FitInputs) (o : IterOptions) (f : Result FitResult Refusal) (r : FitAnswer) (out : List Float)
    → Demand3 l o f out → r ≡ fit_answer f → BestWhereGiven l o r out
best_where_given l o (Ok x) r out d q z =
    subst (BestOfTried l o (take (length l.coefficients) out)) (sym (ap (λ (a : FitAnswer). a.iterations) q)) d
best_where_given l o (Err why) r out d q z = refused_not_given l o why r out q z
