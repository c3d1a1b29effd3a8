-- Reading takes bytes and gives none back.
use Rattle.std.proofs.Common.{◌≤◌, length}
use Rattle.bench.proofs.cases.Cases.list.Given as goal

abbrev pub invariant-loop-place : goal.invariant-loop-place
invariant-loop-place l = length l.self.rest.now ≤ length l.initial.self.rest.now
