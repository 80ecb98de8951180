-- A call: its run, and its outcome by the answer of its questions. Assumes nothing.
use Prim.Native.Nat.{ℕ, ◌+◌, ◌*◌, ◌≤◌}
use native.Mathlib.Omega.{arith}
use mathlib.Core.Path.{◌≡◌, refl, sym, ap, ◌∙◌}
use lib.ListN.{length}
use Rattle.std.specs.Prelude.{⊤, Result, Ok, Err}
use Rattle.refusal.specs.declared.Refusal.{Refusal}
use Rattle.refusal.specs.Refusal.{number_of}
use Rattle.solver.specs.declared.FitResult.{FitResult}
use Rattle.solver.specs.declared.IterOptions.{IterOptions}
use Rattle.solver.specs.Call.{FitInputs, Buffers, sizes_of}
use Rattle.design.specs.Design.{Run, RunInputs, run_from, run_of, run_inputs_of}
use Rattle.design.specs.Counted.{Counted}
use Rattle.design.proofs.Indices.{up_to-length}
use Rattle.validate.specs.Questions.{scratch_needed, asked_of, Ready}
use Rattle.validate.proofs.InOrder.{no_has_number}
use Rattle.outcome.specs.Outcome.{Outcome, decided}
use Rattle.outcome.specs.Scratch.{count_of, height_in}

-- ---- its run r, which needs so much of scratch

scratch_enough : (m n : ℕ) → 8 * n + m * (2 * n + 2 * m) ≤ scratch_needed m n
unfolding scratch_needed
scratch_enough m n = let e : (2 * n + 3 * m) * m ≡ m * (2 * n + 2 * m) + m * m = omega arith in omega arith

module _ (l : FitInputs) (r : RunInputs) (need : ℕ) (is : r ≡ run_inputs_of l)
    (enough : need ≡ scratch_needed (length l.coefficients) (length l.dh)) where
  pub run_ready : (b : Buffers) → Ready l (sizes_of b)
      → Counted r × (8 * count_of r + r.m * height_in r ≤ need) × (need ≤ length b.scratch) × (r.m ≤ length b.coefficients)
      × (r.m ≤ length b.change) × (r.m ≤ length b.sigma) × (3 * count_of r ≤ length b.diagnostics)
  run_ready b p =
      let m = length l.coefficients in
      let n = length l.dh in
      rw (is, enough, up_to-length n)
      (p.counted, scratch_enough m n, p.scratch_room, p.coefficients_room, p.change_room, p.sigma_room, p.diagnostics_room)

  -- the fit F of its run
  pub run_fit : (F : Run → ℕ → Outcome) (x : Outcome) → x ≡ F (run_from r) need → x ≡ F (run_of l) (scratch_needed (length l.coefficients) (length l.dh))
  run_fit F x e = rw (is, enough) at e

-- ---- by the answer r of its questions, where its fit is x

module _ (l : FitInputs) (o : IterOptions) (b : Buffers) (x : Outcome) where
  pub answered : (r a : Result ⊤ Refusal) → r ≡ asked_of l o (sizes_of b) → r ≡ a → decided a x b ≡ decided (asked_of l o (sizes_of b)) x b
  answered r a q e = ap (λ y. decided y x b) (sym e ∙ q)

  -- the number of a refusal is never 0
  pub refusal_has_number : (done : FitResult) → x.answer ≡ Ok done → (why : Refusal) → (decided (asked_of l o (sizes_of b)) x b).answer ≡ Err why
      → number_of why ≡ 0 → ⊥
  refusal_has_number done e why q z = by (asked_of l o (sizes_of b)) refl q
    where
      by : (a : Result ⊤ Refusal) → a ≡ asked_of l o (sizes_of b) → (decided a x b).answer ≡ Err why → ⊥
      by (Ok u) i q = cc
      by (Err other) i q = let same : other ≡ why = cc in no_has_number l o (sizes_of b) why (rw same at i) z
