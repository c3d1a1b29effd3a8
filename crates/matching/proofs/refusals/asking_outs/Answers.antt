-- `matching::refusals::asking_outs` meets its contract. Assumes nothing.
use Rattle.std.proofs.Common.{◌≡◌, rules}
use Rattle.matches.specs.Paper.{out_asks}
use Rattle.matching.specs.Asking.{joined_none, joined_step}
use Rattle.matching.proofs.refusals.asking_outs.Goals as goal

pub loop-row-init : goal.loop-row-init
loop-row-init c = joined_none _

pub loop-row-preserved : goal.loop-row-preserved
loop-row-preserved c = joined_step _ _ _ _ c.loop-row.invariant (search rules)

pub returns : goal.returns
unfolding out_asks
returns c = let e : c.loop-row.row-index ≡ 32 = search rules in λ j l. rw e at c.loop-row.invariant.here j
