-- The invariant: the distinct weights of the ports from `i` on are found. Assumes nothing.
use Rattle.masks.specs.Paper.{has}
use Rattle.matches.specs.Paper.{at}
use Rattle.matching.specs.Ranks.{Found}
use Rattle.matching.proofs.ranks.levels_of.Given as goal

abbrev pub invariant-loop-i : goal.invariant-loop-i
invariant-loop-i l = Found (has l.asking) (at l.weights) l.i l.levels.from l.levels.weights
