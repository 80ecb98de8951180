-- `jacobi::factorise` meets its contract. The loops over q and p have done the pairs so far and have the sums of the next, and the sweeps
-- still to come give what all of them give. Assumes nothing.
use Rattle.std.proofs.Common.{◌≡◌, ◌-◌, ◌*◌, ◌<◌, false}
use Rattle.sequence.specs.Sequence.{each}
use Rattle.jacobi.specs.Jacobi.{products, row, pair, sweeps, factorised}
use Rattle.jacobi.proofs.factorise.Given as goal

abbrev pub invariant-loop-q : goal.invariant-loop-q
invariant-loop-q l =
    (l.q < l.m → l.a ≡ products l.rows (l.p * l.h) (l.q * l.h) l.w)
    × (record { w = l.w; turned = l.turned } ≡ each (l.q - l.initial.q) l.initial.q (pair l.h l.rows l.m l.p) (record { w = l.initial.w; turned = l.initial.turned }))

abbrev pub invariant-loop-p : goal.invariant-loop-p
invariant-loop-p l =
    record { w = l.w; turned = l.turned } ≡ each (l.p - l.initial.p) l.initial.p (row l.h l.rows l.m) (record { w = l.initial.w; turned = l.initial.turned })

abbrev pub invariant-sweeps : goal.invariant-sweeps
invariant-sweeps l = (l.made ≡ l.k) × (l.settled ≡ false) × (sweeps l.h l.rows l.m (30 - l.k) l.k l.w ≡ factorised l.h l.rows l.m l.initial.w)
