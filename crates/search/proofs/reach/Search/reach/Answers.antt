-- `search::reach::Search::reach` meets its contract. Assumes nothing.
use Rattle.std.proofs.Common.{sym, ◌∙◌}
use Rattle.search.specs.Steps.{begun, falls, none_of}
use Rattle.search.proofs.reach.Search.reach.Goals as goal

pub loop-s-init : goal.loop-s-init
loop-s-init c = begun _ _ _ c.requires.unmatched.0 c.requires.unmatched.1 _ c.begin-s.ensures

pub loop-s-smaller : goal.loop-s-smaller
loop-s-smaller c = falls _ _ 0 _ _ c.step.ensures (none_of _ (sym c.is_some.ensures ∙ c.if-is_some.false))
