-- `search::reach::Search::exchange` meets its contract. Assumes nothing.
use Rattle.search.specs.Exchange.{gives_at, exchanged_at}
use Rattle.search.proofs.reach.Search.exchange.Goals as goal

pub returns : goal.returns
returns c = λ E v. exchanged_at E _ _ _ _ v _ _ c.queued-x.ensures c.partner-out.ensures _ c.unlink.ensures _
    (c.augment.ensures E (gives_at E _ _ _ _ v _ _ c.queued-x.ensures c.partner-out.ensures _ c.unlink.ensures _ c.finder.ensures))
