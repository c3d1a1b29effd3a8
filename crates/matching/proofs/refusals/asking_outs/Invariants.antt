-- The invariant: `asking` has the outputs that an input passed asks for. Assumes nothing.
use Rattle.matching.specs.Asking.{Joined}
use Rattle.matching.proofs.refusals.asking_outs.Given as goal

abbrev pub invariant-loop-row : goal.invariant-loop-row
invariant-loop-row l = Joined l.fn.rows l.row-index l.asking
