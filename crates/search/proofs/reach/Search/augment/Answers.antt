-- `search::reach::Search::augment` meets its contract. Assumes nothing.
use Rattle.search.specs.Augment.{goes_back}
use Rattle.search.proofs.reach.Search.augment.Goals as goal

pub loop-h-preserved : goal.loop-h-preserved
loop-h-preserved c = λ E r. goes_back E _ _ _ _ _ _ _ (c.loop-h.invariant E r) _ _ c.link.ensures c.queued-x.ensures c.loop-h-test.true _ _ c.partner-old.ensures c.finder-h.ensures
