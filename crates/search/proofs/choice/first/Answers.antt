-- `search::choice::first` meets its contract. Assumes nothing.
use Rattle.std.proofs.Common.{refl, rules}
use Rattle.search.specs.First.{state_over, state_end}
use Rattle.search.proofs.choice.first.Goals as goal

pub loop-i-preserved : goal.loop-i-preserved
loop-i-preserved c = c.place.ensures _ (search rules) c.loop-i.invariant

pub returns : goal.returns
returns c = state_end _ _ _ _ _ _ _ (search rules) (search rules) (state_over _ _ _ _ _ _ _ c.new.ensures.rows c.new-rest.ensures) c.loop-i.invariant _ refl refl
