-- The invariant: `best` is the place of the lightest of the first k. Assumes nothing.
use Rattle.matches.specs.Paper.{at}
use Rattle.search.specs.Reach.{port_at}
use Rattle.search.specs.Settle.{Lightest}
use Rattle.search.proofs.settle.Side.lightest.Given as goal

abbrev pub invariant-loop-k : goal.invariant-loop-k
invariant-loop-k l = Lightest (at l.self.weights) (port_at l.s) l.k l.best
