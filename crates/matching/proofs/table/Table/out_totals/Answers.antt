-- `matching::table::Table::out_totals` meets its contract. Assumes nothing.
use Rattle.std.proofs.Common.{◌∙◌}
use Rattle.matching.specs.Queues.{column_totals}
use Rattle.matching.proofs.table.Table.out_totals.Goals as goal

pub returns : goal.returns
returns c = (c.totals.ensures.0 ∙ column_totals _ _ _, c.totals.ensures.1)
