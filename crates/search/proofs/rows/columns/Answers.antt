-- `search::rows::columns` meets its contract. Assumes nothing.
use Rattle.std.proofs.Common.{rules}
use Rattle.search.specs.ProblemSteps.{turned_none}
use Rattle.search.proofs.rows.columns.Goals as goal

pub loop-i-init : goal.loop-i-init
loop-i-init c = (search rules, turned_none _)
