-- Which kinds of terms are rotational, as the code tests it: proofs/ByName.antt has that this is so by name, of every name that is read. Definitions only.
use Rattle.std.specs.Prelude.{Bool, true, false}
use Rattle.equatorial.specs.declared.EquatorialTerm.TheVariants.{IH, ID, CH, NP, MA, ME, TF, TX, TXN, DAF, FO, HCES, HCEC, DCES, DCEC}
use Rattle.equatorial.specs.declared.EquatorialTerm.{EquatorialTerm}
use Rattle.terms.specs.declared.TermKind.{TermKind}
use Rattle.terms.specs.declared.TermKind.TheVariants.{Equatorial, Harmonic}

abbrev pub rotates : EquatorialTerm → Bool
rotates IH = true
rotates ID = true
rotates CH = false
rotates NP = true
rotates MA = false
rotates ME = true
rotates TF = false
rotates TX = false
rotates (TXN n) = false
rotates DAF = false
rotates FO = false
rotates HCES = false
rotates HCEC = false
rotates DCES = false
rotates DCEC = false

abbrev pub of_kind : TermKind → Bool
of_kind (Equatorial t) = rotates t
of_kind (Harmonic r) = false
