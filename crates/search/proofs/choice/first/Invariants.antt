-- The invariant: the inputs below i have the partners of `best`. Assumes nothing.
use Rattle.search.specs.First.{State}
use Rattle.search.proofs.choice.first.Given as goal

abbrev pub invariant-loop-i : goal.invariant-loop-i
invariant-loop-i l = State l.whole.problem l.fn.rows l.whole.weights.inputs l.whole.weights.outputs l.rest l.i
