-- `card::Arrivals::none` meets its contract. Assumes nothing.
use Rattle.std.proofs.Common.{refl}
use Rattle.card.specs.Paper.{no_arrivals}
use Rattle.card.proofs.Arrivals.none.Goals as goal

pub returns : goal.returns
unfolding no_arrivals
returns c = refl
