-- `search::rows::spread` meets its contract. Assumes nothing.
use Rattle.search.specs.ProblemSteps.{spread_turn, spread_done}
use Rattle.search.proofs.rows.spread.Goals as goal

pub loop-j-preserved : goal.loop-j-preserved
loop-j-preserved c = let t = c.in-Some.ensures.steps in
    spread_turn _ _ _ c.loop-j.invariant c.requires.0 t.inside (t.lowest.here t.inside) c.with.ensures t.others

pub returns : goal.returns
returns c = spread_done c.loop-j.invariant c.in-None.ensures.steps.0
