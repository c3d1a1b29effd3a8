-- Reading takes bytes and gives none back.
use Rattle.std.proofs.Common.{◌≤◌, length}
use Rattle.bench.proofs.cases.Cases.table.Given as goal

abbrev pub invariant-loop : goal.invariant-loop
invariant-loop l = length l.self.rest.now ≤ length l.initial.self.rest.now
