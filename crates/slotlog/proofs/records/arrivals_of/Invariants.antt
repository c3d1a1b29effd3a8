-- The invariant: the arrivals of the inputs passed, and none with 0 behind them. Assumes nothing.
use Rattle.std.proofs.Common.{◌≡◌, ℕ, ◌≤◌}
use Rattle.slotlog.specs.Paper.{arrivals_of}
use Rattle.slotlog.specs.Arrived.{Gives}
use Rattle.slotlog.proofs.records.arrivals_of.Given as goal

abbrev pub invariant-loop-i : goal.invariant-loop-i
invariant-loop-i g l = record { passed : l.i ≤ l.m; put : (f h : ℕ → ℕ) → Gives (goal.F-post g l.at) l.m f h → l.arrivals ≡ arrivals_of l.i f h }
