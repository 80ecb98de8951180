-- Whether a term is pier sensitive, by its kind: `pier_sensitive` of terms/mod.rs, terms/equatorial.rs and terms/harmonic.rs (docs/SCOPE.md 4.5).
-- Definitions only.
use Rattle.std.specs.Prelude.{Bool, true, false}
use Rattle.equatorial.specs.declared.EquatorialTerm.TheVariants.{IH, ID, CH, NP, MA, ME, TF, TX, TXN, DAF, FO, HCES, HCEC, DCES, DCEC}
use Rattle.harmonic.specs.declared.ResultType.{ResultType}
use Rattle.terms.specs.declared.TermKind.{TermKind}
use Rattle.terms.specs.declared.TermKind.TheVariants.{Equatorial, Harmonic}

abbrev pub sensitive_result : ResultType → Bool
sensitive_result ResultType.H = false
sensitive_result ResultType.D = false
sensitive_result ResultType.X = false
sensitive_result ResultType.P = true
sensitive_result ResultType.A = false
sensitive_result ResultType.E = false
sensitive_result ResultType.Z = false
sensitive_result ResultType.S = false

abbrev pub pier_sensitive_of : TermKind → Bool
pier_sensitive_of (Equatorial IH) = false
pier_sensitive_of (Equatorial ID) = true
pier_sensitive_of (Equatorial CH) = true
pier_sensitive_of (Equatorial NP) = true
pier_sensitive_of (Equatorial MA) = false
pier_sensitive_of (Equatorial ME) = false
pier_sensitive_of (Equatorial TF) = false
pier_sensitive_of (Equatorial TX) = false
pier_sensitive_of (Equatorial (TXN n)) = false
pier_sensitive_of (Equatorial DAF) = false
pier_sensitive_of (Equatorial FO) = false
pier_sensitive_of (Equatorial HCES) = false
pier_sensitive_of (Equatorial HCEC) = false
pier_sensitive_of (Equatorial DCES) = false
pier_sensitive_of (Equatorial DCEC) = false
pier_sensitive_of (Harmonic h) = sensitive_result h.result
