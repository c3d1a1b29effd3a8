-- The invariant: the columns are right but for the outputs that are left. Assumes nothing.
use Rattle.search.specs.ProblemSteps.{Spreading}
use Rattle.search.proofs.rows.spread.Given as goal

abbrev pub invariant-loop-j : goal.invariant-loop-j
invariant-loop-j l = Spreading l.initial.cols l.row l.i l.cols l.j-iterator.left
