use native.Mathlib.Nat.{add-sub_cancel_left}
use Rattle.std.proofs.Common.{arith, ◌≡◌, ◌∙◌, sym, ap, ◌++◌, append-nil}
use Rattle.sequence.proofs.Concat.{concat_none}
use Rattle.listing.specs.Listing.{term_lines}
use Rattle.listing.proofs.Writes.{next_text}
use Rattle.listing.proofs.text.Text.put_terms.Invariants.{line_of}
use Rattle.listing.proofs.text.Text.put_terms.Goals as goal

pub loop-j-init : goal.loop-j-init
loop-j-init c = (omega arith, omega arith, sym (append-nil _) ∙ ap (λ l. c.args.self.now ++ l) (concat_none _))

pub loop-j-preserved : goal.loop-j-preserved
loop-j-preserved c =
    let a = c.args in
    let l = c.loop-j in
    let line = line_of a.names.now a.coefficients.now a.sigma.now in
    (omega arith, omega arith, next_text line a.self.now l.j l.invariant.2 (rw add-sub_cancel_left at c.put_term.ensures.wrote))

pub returns-clause-wrote : goal.returns-clause-wrote
unfolding term_lines
returns-clause-wrote c =
    let l = c.loop-j in
    let e : l.j ≡ c.args.m = omega arith in
    rw e at l.invariant.2
