-- The invariant: `total` is the sum of the counts passed, each at most 65535. Assumes nothing.
use Prim.Native.Nat.{◌≤◌, ◌*◌}
use Rattle.std.proofs.Common.{◌≡◌}
use Rattle.matching.specs.Queues.{lane}
use Rattle.matching.proofs.table.Table.total.Given as goal

abbrev pub invariant-loop-x : goal.invariant-loop-x
invariant-loop-x l = (l.x ≤ l.len) × (l.total ≡ lane l.self.counts.now l.from l.x l.step) × (l.total ≤ 65535 * l.x)
