-- The invariant: what each lane passed holds stands in `totals`, and 0 behind them. Assumes nothing.
use Prim.Native.Nat.{◌≤◌, ◌*◌}
use Rattle.std.proofs.Common.{◌≡◌}
use Rattle.card.specs.Paper.{ports}
use Rattle.matching.specs.Queues.{Light, lane}
use Rattle.matching.specs.Fill.{filled}
use Rattle.matching.proofs.table.Table.totals.Given as goal

abbrev pub invariant-loop-k : goal.invariant-loop-k
invariant-loop-k l = (l.k ≤ l.lanes) × (l.totals ≡ filled ports l.k (λ k. lane l.self.counts.now (k * l.apart) l.len l.step)) × Light l.totals
