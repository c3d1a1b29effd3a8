-- The invariant: the set is right for the ports passed, and has no other. Assumes nothing.
use Prim.Native.Nat.{◌≤◌, ◌-◌}
use Rattle.search.specs.ProblemSteps.{AskingOf}
use Rattle.search.proofs.rows.asking.Given as goal

abbrev pub invariant-loop-i : goal.invariant-loop-i
invariant-loop-i l = (l.i ≤ 32) × AskingOf l.i l.fn.rows l.set

abbrev pub decreases-loop-i : goal.decreases-loop-i
decreases-loop-i l = 32 - l.i
