-- `crosspoint::lists::take_counts` meets its contract. Assumes nothing.
use Rattle.std.proofs.Common.{rules, ◌∙◌, sym, arith}
use Rattle.std.proofs.lemmas.List.{get_or_default}
use Rattle.crosspoint.proofs.Copy.{each_same, holds_at}
use Rattle.crosspoint.proofs.lists.take_counts.Goals as goal

pub put_each-requires-clause-callable : goal.put_each-requires-clause-callable
put_each-requires-clause-callable c k d l =
    let e = get_or_default c.args.list.now k d 0 l in
    omega (arith, e, holds_at _ c.requires.2 k (omega (arith, l, c.requires.1)))

pub returns : goal.returns
returns c = each_same _ _ (c.put_each.ensures.length ∙ c.requires.0 ∙ sym c.requires.1) (λ k d e l. let f = c.put_each.ensures.each k d e l in search rules)
