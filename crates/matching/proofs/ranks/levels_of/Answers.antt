-- `matching::ranks::levels_of` meets its contract: a port that asks adds its weight, another nothing. Assumes nothing.
use Rattle.std.proofs.Common.{not, ap, sym, rules}
use Rattle.matching.specs.Ranks.{add_silent, found_none, found_more}
use Rattle.matching.proofs.ranks.levels_of.Goals as goal

pub loop-i-init : goal.loop-i-init
loop-i-init c = rw (c.none-levels.ensures.0, c.none-levels.ensures.1) (found_none _ _ _ (search rules))

pub loop-i-preserved-then-has : goal.loop-i-preserved-then-has
loop-i-preserved-then-has c = found_more _ _ _ _ _ _ _ c.loop-i-test.true c.loop-i.invariant (rw c.if-has.ensures at c.add.ensures)

pub loop-i-preserved : goal.loop-i-preserved
loop-i-preserved c = found_more _ _ _ _ _ _ _ c.loop-i-test.true c.loop-i.invariant (add_silent _ _ _ _ c.loop-i.levels.inside (ap not (sym c.if-has.ensures)))
