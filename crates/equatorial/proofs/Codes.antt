-- A kind's code leads back to it. Assumes nothing.
use mathlib.Core.Path.{◌≡◌, refl}
use Rattle.equatorial.specs.Equatorial.{code_of, txn_number, kind_of}
use Rattle.equatorial.specs.declared.EquatorialTerm.{EquatorialTerm}
use Rattle.equatorial.specs.declared.EquatorialTerm.TheVariants.{IH, ID, CH, NP, MA, ME, TF, TX, TXN, DAF, FO, HCES, HCEC, DCES, DCEC}

pub kind_of_code : (t : EquatorialTerm) → kind_of (code_of t) (txn_number t) ≡ t
kind_of_code IH = refl
kind_of_code ID = refl
kind_of_code CH = refl
kind_of_code NP = refl
kind_of_code MA = refl
kind_of_code ME = refl
kind_of_code TF = refl
kind_of_code TX = refl
kind_of_code (TXN n) = refl
kind_of_code DAF = refl
kind_of_code FO = refl
kind_of_code HCES = refl
kind_of_code HCEC = refl
kind_of_code DCES = refl
kind_of_code DCEC = refl
