-- `matching::table::Table::in_totals` meets its contract. Assumes nothing.
use Rattle.std.proofs.Common.{◌∙◌}
use Rattle.matching.specs.Queues.{row_totals}
use Rattle.matching.proofs.table.Table.in_totals.Goals as goal

pub returns : goal.returns
returns c = (c.totals.ensures.0 ∙ row_totals _ _ _, c.totals.ensures.1)
