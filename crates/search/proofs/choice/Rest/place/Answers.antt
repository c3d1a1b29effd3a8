-- `search::choice::Rest::place` meets its contract. Assumes nothing.
use native.Mathlib.Numerals.{add-one}
use Rattle.std.proofs.Common.{sym, ◌∙◌}
use Rattle.search.specs.First.{skip_state}
use Rattle.search.proofs.choice.Rest.place.Goals as goal

pub returns-else-row-ne0 : goal.returns-else-row-ne0
returns-else-row-ne0 c = λ rows e h. rw add-one (skip_state _ rows _ _ _ _ c.requires.0 (sym e ∙ c.if-row-ne0.false) h)

pub returns-then-row-ne0 : goal.returns-then-row-ne0
returns-then-row-ne0 c = λ rows e h. c.fix.ensures rows h
