-- `search::rows::narrow` meets its contract. Assumes nothing.
use Rattle.std.proofs.Common.{rules}
use Rattle.search.specs.ProblemSteps.{narrow_more}
use Rattle.search.proofs.rows.narrow.Goals as goal

pub loop-i-preserved : goal.loop-i-preserved
loop-i-preserved c = (search rules, narrow_more _ c.loop-i.invariant.1 c.loop-i-test.true (rw c.has.ensures at c.kept.ensures))
