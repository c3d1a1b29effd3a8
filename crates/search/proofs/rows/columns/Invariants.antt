-- The invariant: the columns are right for the inputs passed, and have no other. Assumes nothing.
use Prim.Native.Nat.{◌≤◌, ◌-◌}
use Rattle.search.specs.ProblemSteps.{Turned}
use Rattle.search.proofs.rows.columns.Given as goal

abbrev pub invariant-loop-i : goal.invariant-loop-i
invariant-loop-i l = (l.i ≤ 32) × Turned l.i l.fn.rows l.cols

abbrev pub decreases-loop-i : goal.decreases-loop-i
decreases-loop-i l = 32 - l.i
