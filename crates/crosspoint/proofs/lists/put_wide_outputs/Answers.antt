-- `crosspoint::lists::put_wide_outputs` meets its contract. Assumes nothing.
use Rattle.std.proofs.Common.{rules}
use Rattle.card.specs.Paper.{out}
use Rattle.crosspoint.proofs.Copy.{each_map}
use Rattle.crosspoint.proofs.lists.put_wide_outputs.Goals as goal

pub returns : goal.returns
returns c = each_map (λ o. o.0) (out 0) _ _ (search rules) (λ k d e l. let f = c.put_each.ensures.each k d e l in search rules)
