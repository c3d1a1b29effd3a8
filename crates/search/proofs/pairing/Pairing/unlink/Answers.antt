-- `search::pairing::Pairing::unlink` meets its contract. Assumes nothing.
use Rattle.std.proofs.Common.{rules}
use Rattle.search.specs.Pair.{put_set, unlinked, unlink_law}
use Rattle.search.proofs.pairing.Pairing.unlink.Goals as goal

pub returns : goal.returns
returns c = unlink_law _ _ _ _ c.requires c.partner-old.ensures
    (unlinked _ _ _ _ _ _ c.partner-old.ensures (put_set _ _ _ (search rules)) c.clear.ensures.freed)
    c.with-self.ensures c.with-self-2.ensures
