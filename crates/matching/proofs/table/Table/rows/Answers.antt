-- `matching::table::Table::rows` meets its contract. Assumes nothing.
use Rattle.std.proofs.Common.{◌≡◌, ◌∙◌, arith, rules}
use Rattle.card.specs.Paper.{ports}
use Rattle.matching.specs.Fill.{filled_none, filled_step}
use Rattle.matching.specs.Queues.{row_law, rows_law}
use Rattle.matching.proofs.table.Table.rows.Goals as goal

pub loop-i-init : goal.loop-i-init
loop-i-init c = (search rules, filled_none ports _)

pub loop-i-preserved : goal.loop-i-preserved
loop-i-preserved c = (search rules, filled_step ports _ _ _ _ (omega arith) c.loop-i.invariant.1 (row_law _ _ _ _ _ _ _ (search rules) (search rules) c.waiting.ensures c.minus.ensures))

pub returns : goal.returns
returns c = let e : c.loop-i.i ≡ c.args.self.now.m = omega arith in (rw e at c.loop-i.invariant.1) ∙ rows_law _ _ _ _
