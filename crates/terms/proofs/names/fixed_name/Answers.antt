use native.Mathlib.Omega.{arith}
use Rattle.terms.proofs.Fixed.{short, long, two, three, four}
use Rattle.terms.proofs.names.fixed_name.Goals as goal

pub returns-in_default : goal.returns-in_default
returns-in_default c = short c.args.name.now (omega arith)

pub returns-in_default-9 : goal.returns-in_default-9
returns-in_default-9 c =
    two c.args.name.now (omega arith) (omega arith) (omega arith) (omega arith) (omega arith) (omega arith) (omega arith) (omega arith)

pub returns-in_default-11 : goal.returns-in_default-11
returns-in_default-11 c = three c.args.name.now (omega arith) (λ d a f. omega arith)

pub returns-in_default-12 : goal.returns-in_default-12
returns-in_default-12 c = three c.args.name.now (omega arith) (λ d a f. omega arith)

pub returns-in_default-18 : goal.returns-in_default-18
returns-in_default-18 c = four c.args.name.now (omega arith) (λ x y z w. omega arith) (λ x y z w. omega arith) (λ x y z w. omega arith)

pub returns-in_default-22 : goal.returns-in_default-22
returns-in_default-22 c = four c.args.name.now (omega arith) (λ x y z w. omega arith) (λ x y z w. omega arith) (λ x y z w. omega arith)

pub returns-in_default-23 : goal.returns-in_default-23
returns-in_default-23 c = long c.args.name.now (omega arith)
