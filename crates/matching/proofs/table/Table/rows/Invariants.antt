-- The invariant: the rows of the inputs passed stand in `rows`, and 0 behind them. Assumes nothing.
use Prim.Native.Nat.{◌≤◌}
use Rattle.std.proofs.Common.{◌≡◌}
use Rattle.card.specs.Paper.{ports}
use Rattle.matches.specs.Paper.{mask, wants}
use Rattle.matching.specs.Fill.{filled}
use Rattle.matching.proofs.table.Table.rows.Given as goal

abbrev pub invariant-loop-i : goal.invariant-loop-i
invariant-loop-i l = (l.i ≤ l.self.m) × (l.rows ≡ filled ports l.i (λ x. mask ports (wants l.self.m l.self.n l.self.counts.now l.hold x)))
