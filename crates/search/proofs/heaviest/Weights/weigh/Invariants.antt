-- The invariant: what the inputs passed bring. Assumes nothing.
use Rattle.std.proofs.Common.{◌≡◌}
use Prim.Native.Nat.{◌*◌, ◌≤◌}
use Rattle.masks.specs.Paper.{sum as sum_to}
use Rattle.search.specs.Heaviest.{brings}
use Rattle.search.proofs.heaviest.Weights.weigh.Given as goal

abbrev pub invariant-loop-i : goal.invariant-loop-i
invariant-loop-i l = (l.sum ≡ sum_to l.i (brings l.self.inputs l.self.outputs l.fn.p.mine)) × (l.sum ≤ 8589934591 * l.i)
