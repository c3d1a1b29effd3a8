-- `search::pairing::Pairing::link` meets its contract. Assumes nothing.
use Rattle.std.proofs.Common.{arith, rules}
use Rattle.search.specs.Pair.{put_set, linked, link_law}
use Rattle.search.proofs.pairing.Pairing.link.Goals as goal

pub returns : goal.returns
returns c = link_law _ _ _ _ _ _ c.requires.0 c.requires.1 c.partner-old.ensures
    (linked _ _ _ _ _ _ _ _ c.partner-old.ensures (put_set _ _ _ (search rules)) c.clear.ensures.freed (put_set _ _ _ (omega arith)))
    c.without-self.ensures c.with.ensures c.without-self-2.ensures
