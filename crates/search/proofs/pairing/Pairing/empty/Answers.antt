-- `search::pairing::Pairing::empty` meets its contract. Assumes nothing.
use Rattle.search.specs.Pair.{empty_law}
use Rattle.search.proofs.pairing.Pairing.empty.Goals as goal

pub returns : goal.returns
returns c = empty_law
