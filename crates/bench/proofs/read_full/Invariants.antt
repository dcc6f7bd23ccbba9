-- What has come is no more than there is room for.
use Rattle.std.proofs.Common.{◌≤◌, length}
use Rattle.bench.proofs.read_full.Given as goal

abbrev pub invariant-loop : goal.invariant-loop
invariant-loop g l = l.n ≤ length l.buffer
