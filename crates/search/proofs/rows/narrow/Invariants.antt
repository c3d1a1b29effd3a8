-- The invariant: the rows passed are narrowed. Assumes nothing.
use Prim.Native.Nat.{◌≤◌, ◌-◌}
use Rattle.search.specs.ProblemSteps.{Narrow}
use Rattle.search.proofs.rows.narrow.Given as goal

abbrev pub invariant-loop-i : goal.invariant-loop-i
invariant-loop-i l = (l.i ≤ 32) × Narrow l.i l.fn.rows l.mine l.theirs l.row-items

abbrev pub decreases-loop-i : goal.decreases-loop-i
decreases-loop-i l = 32 - l.i
