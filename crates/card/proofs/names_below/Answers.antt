-- `card::names_below` meets its contract. Assumes nothing.
use Rattle.std.proofs.Common.{rules}
use Rattle.card.proofs.Names.{names_law}
use Rattle.card.proofs.names_below.Goals as goal

pub returns : goal.returns
returns c = names_law _ _ _ _ c.below.ensures c.minus.ensures (search rules)
