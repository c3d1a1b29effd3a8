-- `matching::table::Table::total` meets its contract. Assumes nothing.
use Prim.Native.Nat.{◌+◌, ◌*◌}
use Rattle.std.proofs.Common.{sym, ap₂, arith, rules}
use Rattle.masks.specs.Sum.{sum_none, sum_step}
use Rattle.matching.specs.Queues.{lane}
use Rattle.matching.proofs.table.Table.total.Goals as goal

pub loop-x-init : goal.loop-x-init
unfolding lane
loop-x-init c = (search rules, sym (sum_none _), search rules)

pub loop-x-preserved : goal.loop-x-preserved
unfolding lane
loop-x-preserved c = (search rules, rw sum_step (ap₂ ◌+◌ c.loop-x.invariant.1 c.from-total.ensures), omega (arith, c.loop-x.invariant.2, c.from-total.ensures, c.type_inv.counts (c.args.from + c.loop-x.x * c.args.step)))
