-- `slot::total` meets its contract. Assumes nothing.
use Rattle.std.proofs.Common.{◌≡◌, ◌∙◌, rules, sum}
use Rattle.std.proofs.iter.runs.Sources.{sums}
use Rattle.std.proofs.iter.runs.Made.{chains}
use Rattle.masks.proofs.Chains.{sum_by_places}
use Rattle.slot.proofs.total.Goals as goal

pub sum-requires-clause-fits : goal.sum-requires-clause-fits
sum-requires-clause-fits c = search (rules, sums)

pub returns : goal.returns
returns c = let e : c.sum.result ≡ sum c.args.counts.now = search (rules, chains) in e ∙ sum_by_places (λ x. x) c.args.counts.now 0
