-- `matching::table::Table::totals` meets its contract. Assumes nothing.
use Rattle.std.proofs.Common.{arith, rules}
use Rattle.card.specs.Paper.{ports}
use Rattle.matching.specs.Queues.{light_none, light_set}
use Rattle.matching.specs.Fill.{filled_none, filled_step}
use Rattle.matching.proofs.table.Table.totals.Goals as goal

pub loop-k-init : goal.loop-k-init
loop-k-init c = (search rules, filled_none ports _, light_none ports)

pub loop-k-preserved : goal.loop-k-preserved
loop-k-preserved c = (search rules, filled_step ports _ _ _ _ (omega arith) c.loop-k.invariant.1 c.total.ensures.0, light_set c.loop-k.totals c.loop-k.k _ c.total.ensures.1 c.loop-k.invariant.2)
