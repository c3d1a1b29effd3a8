-- `slot::Record::accepted` meets its contract. Assumes nothing.
use Rattle.slot.proofs.Accepted.{mid_ready, mid_taken, mid_partners, together}
use Rattle.slot.proofs.Record.accepted.Goals as goal

pub matched-found-requires : goal.matched-found-requires
matched-found-requires c = mid_taken _ _ _ c.requires _ _ _ _ c.take_all-dropped.ensures

pub send_all-sent-requires-clause-ready : goal.send_all-sent-requires-clause-ready
send_all-sent-requires-clause-ready c = mid_ready _ _ _ c.requires _ _ _ _ c.take_all-dropped.ensures

pub send_all-sent-requires-clause-partners : goal.send_all-sent-requires-clause-partners
send_all-sent-requires-clause-partners c = let m = c.matched-found in mid_partners _ _ _ c.requires _ _ _ _ c.take_all-dropped.ensures m.result m.ensures

pub returns : goal.returns
returns c = let m = c.matched-found in
    let s = c.send_all-sent in
    together _ _ _ c.requires _ _ _ _ c.take_all-dropped.ensures m.result m.ensures s.new.self s.result s.new.cells s.new.stamps s.ensures.partners s.ensures.sent
