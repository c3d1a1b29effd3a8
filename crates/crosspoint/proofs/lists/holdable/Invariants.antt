-- The invariant: `ok` is the test of the numbers passed. Assumes nothing.
use Rattle.std.proofs.Common.{◌≡◌}
use lib.Dec.{ltb}
use Rattle.masks.specs.Paper.{every}
use Rattle.matches.specs.Paper.{at}
use Rattle.crosspoint.proofs.lists.holdable.Given as goal

abbrev pub invariant-loop-number : goal.invariant-loop-number
invariant-loop-number l = l.ok ≡ every l.number-index (λ i. ltb (at l.list i) 65536)
