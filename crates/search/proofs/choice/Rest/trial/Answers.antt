-- `search::choice::Rest::trial` meets its contract. Assumes nothing.
use Rattle.std.proofs.Common.{◌∙◌}
use Rattle.search.specs.ProblemSteps.{without_pair}
use Rattle.search.proofs.choice.Rest.trial.Goals as goal

pub heaviest-pairing-requires : goal.heaviest-pairing-requires
heaviest-pairing-requires c = let f = c.requires.2 in
    let w = without_pair f.is_left c.without-ins.ensures c.without-outs.ensures c.left_of.ensures in
    c.part.ensures.keeps _ _ f.paired (λ x b lx lb d e o. w.rows.other x b lx lb d e ∙ o)
