-- `records`: the base has at most 40,000 bytes. Assumes nothing.
use Rattle.std.proofs.Common.{◌≤◌}
use Rattle.replay_files.proofs.records.Given as goal

abbrev pub invariant-loop : goal.invariant-loop
invariant-loop g l = l.n ≤ 40000
