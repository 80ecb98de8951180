-- The Jacobians of the equatorial terms, from docs/SCOPE.md 4.4 and terms/equatorial.rs, in binary64 and in the source's order of operations. Definitions only.
use Rattle.std.specs.Prelude.{ℕ, zero, suc, ◌-◌, Bool, cond, List, [], ◌∷◌, get_or, Float}
use Rattle.std.specs.Float.{binary64}
use Rattle.std.specs.Float.Ieee.{of_bits, neg, lt}
use Rattle.float.specs.Float.{◌⊕◌, ◌⊖◌, ◌⊗◌, ◌⊘◌, #0, #1, abs}
use Rattle.sqrt.specs.Sqrt.{sqrt}
use Rattle.observation.specs.Observation.{pair_of}
use Rattle.observation.specs.declared.Point.{Point}
use Rattle.observation.specs.declared.Pair.{Pair}
use Rattle.equatorial.specs.declared.EquatorialTerm.{EquatorialTerm}
use Rattle.equatorial.specs.declared.EquatorialTerm.TheVariants.{IH, ID, CH, NP, MA, ME, TF, TX, TXN, DAF, FO, HCES, HCEC, DCES, DCEC}

-- ---- the kinds by number

-- from 0 in the order of `EquatorialTerm`
abbrev pub code_of : EquatorialTerm → ℕ
code_of IH = 0
code_of ID = 1
code_of CH = 2
code_of NP = 3
code_of MA = 4
code_of ME = 5
code_of TF = 6
code_of TX = 7
code_of (TXN n) = 8
code_of DAF = 9
code_of FO = 10
code_of HCES = 11
code_of HCEC = 12
code_of DCES = 13
code_of DCEC = 14

-- TXN's own number
abbrev pub txn_number : EquatorialTerm → ℕ
txn_number IH = 0
txn_number ID = 0
txn_number CH = 0
txn_number NP = 0
txn_number MA = 0
txn_number ME = 0
txn_number TF = 0
txn_number TX = 0
txn_number (TXN n) = n
txn_number DAF = 0
txn_number FO = 0
txn_number HCES = 0
txn_number HCEC = 0
txn_number DCES = 0
txn_number DCEC = 0

-- in that order, but for the last; n is TXN's own number
abbrev pub kinds : ℕ → List EquatorialTerm
kinds n = IH ∷ ID ∷ CH ∷ NP ∷ MA ∷ ME ∷ TF ∷ TX ∷ TXN n ∷ DAF ∷ FO ∷ HCES ∷ HCEC ∷ DCES ∷ []

-- the kind with a code; from 14 on DCEC
abbrev pub kind_of : ℕ → ℕ → EquatorialTerm
kind_of code n = get_or (kinds n) code DCEC

-- ---- tube flexure

-- sin_alt of TX, cos_z of TXN
abbrev pub sin_alt : Point → Float
sin_alt p = p.sin_lat ⊗ p.sin_dec ⊕ p.cos_lat ⊗ p.cos_dec ⊗ p.cos_h

-- `x.abs() < 1e-10`
abbrev pub small : Float → Bool
small x = lt (abs x) (of_bits binary64 0x3ddb7cdfd9d7bdbb)

-- dh_tf and dd_tf of TX and TXN
abbrev pub flexure_h : Point → Float
flexure_h p = p.cos_lat ⊗ p.sin_h ⊘ p.cos_dec

abbrev pub flexure_d : Point → Float
flexure_d p = p.cos_lat ⊗ p.cos_h ⊗ p.sin_dec ⊖ p.sin_lat ⊗ p.cos_dec

abbrev pub tf_of : Point → Pair
tf_of p = pair_of (neg p.cos_lat ⊗ p.sin_h ⊘ p.cos_dec) (neg (flexure_d p))

abbrev pub tx_of : Point → Pair
tx_of p = cond (small (sin_alt p)) (pair_of #0 #0) (pair_of (flexure_h p ⊘ sin_alt p) (flexure_d p ⊘ sin_alt p))

-- `x.max(0.0)`: x where it is above 0, and 0 otherwise, for a NaN too
abbrev pub at_least_zero : Float → Float
at_least_zero x = cond (lt #0 x) x #0

-- tan_z, from cos_z
abbrev pub tan_z : Float → Float
tan_z c = sqrt binary64 (at_least_zero (#1 ⊖ c ⊗ c)) ⊘ c

-- the product of n factors x, from the left, starting at 1
unfoldable pub power : Float → ℕ → Float
power x zero = #1
power x (suc n) = power x n ⊗ x

abbrev pub flexed : Float → Point → Pair
flexed scale p = pair_of (scale ⊗ flexure_h p ⊘ sin_alt p) (scale ⊗ flexure_d p ⊘ sin_alt p)

-- a name gives n from 1 to 255
abbrev pub txn_of : Point → ℕ → Pair
txn_of p n = cond (small (sin_alt p)) (pair_of #0 #0) (flexed (power (tan_z (sin_alt p)) (n - 1)) p)

-- ---- one clause a term

abbrev pub daf_of : Point → Pair
daf_of p = pair_of (neg (p.sin_lat ⊗ p.tan_dec ⊕ p.cos_lat ⊗ p.cos_h)) #0

abbrev pub equatorial_jacobian : EquatorialTerm → Point → Pair
equatorial_jacobian IH p = pair_of (neg #1) #0
equatorial_jacobian ID p = pair_of #0 (neg p.pier)
equatorial_jacobian CH p = pair_of (neg p.pier ⊘ p.cos_dec) #0
equatorial_jacobian NP p = pair_of (neg p.pier ⊗ p.tan_dec) #0
equatorial_jacobian MA p = pair_of (p.cos_h ⊗ p.tan_dec) (neg p.sin_h)
equatorial_jacobian ME p = pair_of (neg p.sin_h ⊗ p.tan_dec) (neg p.cos_h)
equatorial_jacobian TF p = tf_of p
equatorial_jacobian TX p = tx_of p
equatorial_jacobian (TXN n) p = txn_of p n
equatorial_jacobian DAF p = daf_of p
equatorial_jacobian FO p = pair_of #0 p.cos_h
equatorial_jacobian HCES p = pair_of p.sin_h #0
equatorial_jacobian HCEC p = pair_of p.cos_h #0
equatorial_jacobian DCES p = pair_of #0 p.sin_dec
equatorial_jacobian DCEC p = pair_of #0 p.cos_dec
