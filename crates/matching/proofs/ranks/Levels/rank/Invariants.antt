-- The invariant: of the levels passed those that are smaller are counted. Assumes nothing.
use Rattle.std.proofs.Common.{◌≡◌}
use Rattle.matching.specs.Ranks.{counted}
use Rattle.matching.proofs.ranks.Levels.rank.Given as goal

abbrev pub invariant-loop-level : goal.invariant-loop-level
invariant-loop-level l = l.rank ≡ counted l.weight l.level-index l.levels
