-- What the questions' answer says where all are passed: `Ready`. Assumes nothing.
use Prim.Native.Nat.{ℕ, ◌*◌, ◌≤◌, ◌<◌}
use native.Mathlib.Omega.{arith}
use mathlib.Core.Path.{◌≡◌, refl, sym, ◌∙◌}
use mathlib.Core.Bool.{true, ◌&&◌}
use borrow.Author.Tests.{leb-true, ltb-true}
use lib.Dec.{leb}
use lib.ListN.{length}
use Rattle.std.specs.Prelude.{Result, Ok, Err, ⊤}
use Rattle.refusal.specs.declared.Refusal.{Refusal}
use Rattle.refusal.specs.Questions.{and_then}
use Rattle.sequence.proofs.Tests.{left_of, right_of}
use Rattle.terms.specs.Slots.{names_read}
use Rattle.design.specs.Design.{run_inputs_of}
use Rattle.design.specs.Counted.{Counted}
use Rattle.design.proofs.Indices.{up_to-length, up_to_below, indices_few, indices_below}
use Rattle.solver.specs.declared.IterOptions.{IterOptions}
use Rattle.solver.specs.declared.Sizes.{Sizes}
use Rattle.solver.specs.Call.{FitInputs}
use Rattle.validate.specs.Questions.{enough_room, scratch_needed, free_count, answered, numbers_asked, codes_asked, free_asked, asked_of, Ready}
use Rattle.validate.proofs.Laws.{limits_facts, CountsMatch, counts_facts, first_yes}

both_ok : {A B : Type 0} (a : Result A Refusal) (f : A → Result B Refusal) (v : B) → and_then a f ≡ Ok v → (u : A) × (a ≡ Ok u) × (f u ≡ Ok v)
both_ok (Ok u) f v e = (u, refl, e)
both_ok (Err why) f v e = cc

record Roomy (s : Sizes) (m n : ℕ) : Type 0 where
  coefficients_room : m ≤ s.coefficients
  change_room : m ≤ s.change
  sigma_room : m ≤ s.sigma
  diagnostics_room : 3 * n ≤ s.diagnostics
  scratch_room : scratch_needed m n ≤ s.scratch

room_facts : (s : Sizes) (m n : ℕ) → enough_room s m n ≡ true → Roomy s m n
unfolding enough_room
room_facts s m n e =
    let a = leb m s.coefficients in
    let b = leb m s.change in
    let c = leb m s.sigma in
    let d = leb (3 * n) s.diagnostics in
    let f = leb (scratch_needed m n) s.scratch in
    let e4 : (a && b && c && d) ≡ true = left_of (a && b && c && d) f e in
    let e3 : (a && b && c) ≡ true = left_of (a && b && c) d e4 in
    let e2 : (a && b) ≡ true = left_of (a && b) c e3 in
    record {
      coefficients_room = leb-true m s.coefficients (left_of a b e2);
      change_room = leb-true m s.change (right_of a b e2);
      sigma_room = leb-true m s.sigma (right_of (a && b) c e3);
      diagnostics_room = leb-true (3 * n) s.diagnostics (right_of (a && b && c) d e4);
      scratch_room = leb-true (scratch_needed m n) s.scratch (right_of (a && b && c && d) f e);
    }

-- what lengths that match, names that are read, one free term and as many stars say of the call's run
counted : (l : FitInputs) → (length l.coefficients ≤ 32) × (length l.dh ≤ 1024) → CountsMatch l
    → names_read l.names (length l.coefficients) ≡ Ok tt → 0 < free_count l.fixed → free_count l.fixed ≤ length l.dh
    → Counted (run_inputs_of l)
counted l f c read free enough = record {
  terms = f.0;
  names_count = c.names_count;
  names_read = read;
  some_free = free;
  free_few = omega (arith, indices_few l.fixed, c.fixed_count);
  free_below = rw c.fixed_count at (indices_below l.fixed);
  stars = f.1;
  dd_count = c.dd_count;
  pier_count = c.pier_count;
  sheets_count = c.sheets_count;
  used_few = omega (arith, up_to-length (length l.dh));
  used_below = up_to_below (length l.dh);
  used_enough = omega (arith, up_to-length (length l.dh), enough);
}

pub ready : (l : FitInputs) (o : IterOptions) (s : Sizes) (r : Result ⊤ Refusal) → r ≡ Ok tt → r ≡ asked_of l o s → Ready l s
unfolding asked_of
ready l o s r e q =
    let m = length l.coefficients in
    let n = length l.dh in
    let parts = both_ok (answered (numbers_asked l o s)) _ tt (sym q ∙ e) in
    let rest = both_ok (answered (codes_asked l.pier l.fixed o.max_iter)) _ tt parts.2 in
    let named = both_ok (names_read l.names m) (λ _. answered (free_asked l.fixed m n)) tt rest.2 in
    let limits = first_yes _ _ _ _ parts.1 in
    let lengths = first_yes _ _ _ _ limits.1 in
    let buffers = first_yes _ _ _ _ lengths.1 in
    let some = first_yes _ _ _ _ named.2 in
    let free = first_yes _ _ _ _ some.1 in
    let stars = first_yes _ _ _ _ free.1 in
    let c = counts_facts l lengths.0 in
    let h = room_facts s m n buffers.0 in
    record {
      counted = counted l (limits_facts m n limits.0) c named.1 (ltb-true 0 _ free.0) (leb-true _ n stars.0);
      fixed_count = c.fixed_count;
      coefficients_room = h.coefficients_room;
      change_room = h.change_room;
      sigma_room = h.sigma_room;
      diagnostics_room = h.diagnostics_room;
      scratch_room = h.scratch_room;
    }
