-- `search::heaviest::Weights::heaviest` meets its contract. Assumes nothing.
use Rattle.search.specs.Heaviest.{heaviest}
use Rattle.search.proofs.heaviest.Weights.heaviest.Goals as goal

pub returns : goal.returns
returns c = heaviest _ _ _ _ (record { turned = c.args.problem.now.turned }) _ _ c.settle-settled.ensures _ _ c.swapped.ensures c.settle.ensures _ c.swapped-2.ensures
