-- The invariant: `row` has the outputs passed that have cells waiting. Assumes nothing.
use Prim.Native.Nat.{◌≤◌}
use Rattle.std.proofs.Common.{◌≡◌}
use Rattle.matches.specs.Paper.{mask}
use Rattle.matching.specs.Queues.{waits}
use Rattle.matching.proofs.table.Table.waiting.Given as goal

abbrev pub invariant-loop-j : goal.invariant-loop-j
invariant-loop-j l = (l.j ≤ l.fn.self.n) × (l.row ≡ mask l.j (waits l.fn.self.m l.fn.self.n l.fn.self.counts.now l.fn.i))
