use Rattle.std.proofs.Common.{arith}
use Rattle.std.proofs.lemmas.List.{get_or-take}
use lib.Ieee.{nan}
use Rattle.column.proofs.Columns.{lending_start, lending_next, lending_end}
use Rattle.column.proofs.change_columns.Goals as goal

pub loop-j-init : goal.loop-j-init
loop-j-init g c = lending_start (omega arith) (omega arith)

pub loop-j-preserved : goal.loop-j-preserved
loop-j-preserved g c =
    let e = get_or-take c.args.m c.args.n.now c.loop-j.j nan (omega arith) in
    lending_next c.loop-j.invariant (g.met.C.Change.keeps _) (omega arith) (rw e at c.change.ensures)

pub returns : goal.returns
returns g c = lending_end c.loop-j.invariant (omega arith)
