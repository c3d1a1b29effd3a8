-- The invariant: all but those left were visited. Assumes nothing.
use Rattle.search.specs.Settle.{Passing}
use Rattle.search.proofs.settle.Side.sweep.Given as goal

abbrev pub invariant-loop-u : goal.invariant-loop-u
invariant-loop-u l = Passing l.self.rows l.self.weights l.initial.p l.p l.u-iterator.left
