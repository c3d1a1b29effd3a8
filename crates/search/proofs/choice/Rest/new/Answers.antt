-- `search::choice::Rest::new` meets its contract. Assumes nothing.
use Rattle.std.proofs.Common.{refl}
use Rattle.search.specs.First.{state_begin}
use Rattle.search.proofs.choice.Rest.new.Goals as goal

pub heaviest-pairing-requires : goal.heaviest-pairing-requires
heaviest-pairing-requires c = c.empty.ensures _

pub returns : goal.returns
returns c = state_begin _ _ _ _ refl refl c.heaviest-pairing.ensures c.weigh.ensures.0 refl
