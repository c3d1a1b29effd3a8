-- `crosspoint::lists::outputs_in` meets its contract. Assumes nothing.
use Rattle.std.proofs.Common.{rules, ◌∙◌, sym}
use Rattle.card.specs.Paper.{out}
use Rattle.crosspoint.proofs.Copy.{each_map}
use Rattle.crosspoint.proofs.lists.outputs_in.Goals as goal

pub returns : goal.returns
returns c = each_map out 0 _ _ (c.put_each.ensures.length ∙ sym c.requires) (λ k d e l. let f = c.put_each.ensures.each k d e l in search rules)
