-- `search::choice::Rest::fix` meets its contract. Assumes nothing.
use Rattle.std.proofs.Common.{refl, arith}
use native.Mathlib.Numerals.{add-one}
use Rattle.search.specs.First.{placing_begin, placing_lost, placing_won, fails_trial, keeps}
use Rattle.search.proofs.choice.Rest.fix.Goals as goal

pub loop-j-init : goal.loop-j-init
loop-j-init c = rw (c.into_iter-j-iterator.ensures.into_iter_gives, c.ports-j-items.ensures)
    (λ rows h. placing_begin _ rows _ _ _ _ c.requires.0 h _ _ refl c.candidates.ensures)

pub returns-then-t-gain : goal.returns-then-t-gain
returns-then-t-gain c = let n = c.in-Some.ensures.steps in
    λ rows h. rw add-one (placing_won _ rows _ _ _ _ c.requires.0 h _ (c.loop-j.invariant rows h) n.some _ n.lowest _ c.trial-t.ensures (omega (arith, c.gain.ensures.0, c.if-t-gain.true)))

pub loop-j-preserved : goal.loop-j-preserved
loop-j-preserved c = let n = c.in-Some.ensures.steps in
    λ rows h. placing_lost _ rows _ _ _ _ c.requires.0 h _ (c.loop-j.invariant rows h) n.some _ n.lowest
    (fails_trial _ rows _ _ _ _ c.requires.0 h _ n.inside _ c.trial-t.ensures (λ e. c.if-t-gain.false (omega (arith, c.gain.ensures.0, e)))) _ n.others

pub returns : goal.returns
returns c = λ rows h. rw add-one (keeps _ rows _ _ _ _ c.requires.0 h (rw c.in-None.ensures.steps.0 at (c.loop-j.invariant rows h)) _ c.keep.ensures)
