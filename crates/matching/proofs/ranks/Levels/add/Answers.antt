-- `matching::ranks::Levels::add` meets its contract: a weight that is there already, and a new one. Assumes nothing.
use Rattle.std.proofs.Common.{sym, ◌∙◌, rules}
use Rattle.matching.specs.Ranks.{add_again, add_new, member_any}
use Rattle.matching.proofs.ranks.Levels.add.Goals as goal

pub returns-then-contains : goal.returns-then-contains
returns-then-contains c = add_again _ _ _ _ (search rules) (sym (member_any _ _) ∙ (search rules))

pub returns : goal.returns
returns c = add_new _ _ _ _ c.requires (search rules) (search rules) (search rules) (sym (member_any _ _) ∙ (search rules))
