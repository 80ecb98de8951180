-- A loop that writes three numbers a star. Assumes nothing.
use Prim.Native.Nat.{ℕ, ◌+◌, ◌-◌, ◌*◌, ◌≤◌}
use native.Mathlib.Nat.{add-sub_cancel_left}
use native.Mathlib.Omega.{arith}
use mathlib.Core.Path.{◌≡◌, refl, sym, ap, ◌∙◌}
use mathlib.Core.List.{List, [], ◌∷◌, ◌++◌, append_assoc}
use lib.ListN.{length, take, drop, length-append, length-drop}
use lib.Seq.{sets, sets-eq, drop-drop}
use lib.Ieee.{Float}
use Rattle.sequence.specs.Sequence.{at, part}
use Rattle.sequence.proofs.Concat.{concat_length}
use Rattle.sequence.proofs.Only.{back}
use Rattle.linalg.specs.Linalg.{leverage_of}
use Rattle.solver.specs.declared.ObsDiagnostic.{ObsDiagnostic}
use Rattle.stats.specs.Stats.{sqrt, variance, diagnostic}
use Rattle.outcome.specs.Outcome.{diagnostic_from, diagnostic_numbers}
use Rattle.outcome.proofs.Over.{over_next}

lent : (w : List Float) (x n : ℕ) → take (x + n - x) (drop x w) ≡ part w x n
lent w x n = ap (λ (k : ℕ). take k (drop x w)) (add-sub_cancel_left x n)

-- of star i, from what is lent of w: the residuals, n from x on, and the solved columns, k from c on
pub diagnostic_given : (w inv : List Float) (order : List ℕ) (x n c k h i j dof : ℕ) (s v a b p q : Float) (d : ObsDiagnostic) → i ≡ j
    → s ≡ sqrt v → v ≡ variance (take (x + n - x) (drop x w)) dof
    → p ≡ at (take (x + n - x) (drop x w)) (2 * j) → q ≡ at (take (x + n - x) (drop x w)) (2 * j + 1)
    → a ≡ leverage_of h (take (c + k - c) (drop c w)) order inv (2 * i) → b ≡ leverage_of h (take (c + k - c) (drop c w)) order inv (2 * i + 1)
    → d ≡ diagnostic s p q a b → d ≡ diagnostic_from dof (part w x n) (leverage_of h (part w c k) order inv) j
diagnostic_given w inv order x n c k h i j dof s v a b p q d z es ev ep eq ea eb e =
    e ∙ rw (es, ev, ep, eq, ea, eb, z, lent w x n, lent w c k) refl

pub diagnostic_numbers_next : (f : ℕ → ObsDiagnostic) (i n : ℕ) (d s : List Float) (v : ObsDiagnostic) → i ≡ n → 3 * n + 3 ≤ length d
    → s ≡ diagnostic_numbers n f ++ drop (3 * n) d → v ≡ f n
    → back s (v.residual_sky ∷ v.leverage ∷ v.studentized ∷ []) (3 * i) 3 ≡ diagnostic_numbers (n + 1) f ++ drop (3 * (n + 1)) d
diagnostic_numbers_next f i n d s v at h e q =
    let g = λ (k : ℕ). (f k).residual_sky ∷ (f k).leverage ∷ (f k).studentized ∷ [] in
    let D = diagnostic_numbers n f in
    let m : length D ≡ 3 * n = concat_length g 3 (λ k. refl) n in
    let long : length s ≡ length d = ap length e ∙ length-append D (drop (3 * n) d) ∙ simp length-drop (omega arith) in
    let ys = g n in
    let cut : 3 * n + 3 - 3 * n ≡ 3 = add-sub_cancel_left (3 * n) 3 in
    let written : back s ys (3 * n) 3 ≡ sets s (3 * n) ys =
    rw (cut, sets-eq ys s (3 * n) (omega arith), drop-drop 3 (3 * n) s) (sym (append_assoc (take (3 * n) s) ys (drop (3 * n + 3) s))) in
    rw (at, q) (written ∙ over_next g 3 (λ k. refl) n d s h e)
