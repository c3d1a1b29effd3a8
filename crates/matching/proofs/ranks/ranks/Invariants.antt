-- The invariant: the weights of the ports passed are replaced by their ranks. Assumes nothing.
use Prim.Native.Nat.{◌≤◌, ◌-◌}
use Rattle.std.proofs.Common.{◌≡◌}
use Rattle.masks.specs.Paper.{has}
use Rattle.matches.specs.Paper.{at, rank}
use Rattle.matching.specs.Fill.{passed}
use Rattle.matching.proofs.ranks.ranks.Given as goal

abbrev pub invariant-loop-i : goal.invariant-loop-i
invariant-loop-i l = (l.i ≤ 32) × (l.weights ≡ passed 32 l.i (rank (has l.asking) (at l.fn.weights)) (at l.fn.weights))

abbrev pub decreases-loop-i : goal.decreases-loop-i
decreases-loop-i l = 32 - l.i
