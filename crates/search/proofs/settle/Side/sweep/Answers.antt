-- `search::settle::Side::sweep` meets its contract. Assumes nothing.
use Rattle.search.specs.Settle.{pass_begin, pass_end}
use Rattle.search.proofs.settle.Side.sweep.Goals as goal

pub loop-u-init : goal.loop-u-init
loop-u-init c = rw (c.into_iter-u-iterator.ensures.into_iter_gives, c.ports-u-items.ensures)
    (pass_begin _ _ _ c.requires.paired _ _ c.requires.outside c.both.ensures)

pub returns : goal.returns
returns c = pass_end _ _ _ _ _ c.in-None.ensures.steps.0 c.loop-u.invariant
