-- The measure: what those without a partner weigh, and one more each. Assumes nothing.
use Rattle.search.specs.Settle.{Come, loss_of}
use Rattle.search.proofs.settle.Side.settle.Given as goal

abbrev pub invariant-loop-q : goal.invariant-loop-q
invariant-loop-q l = Come l.self.rows l.self.weights l.initial.q l.q

abbrev pub decreases-loop-q : goal.decreases-loop-q
decreases-loop-q l = loss_of l.self.weights l.q
