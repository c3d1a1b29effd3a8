-- `matching::weighted_match` meets its contract. Assumes nothing.
use Rattle.std.proofs.Common.{sym}
use Rattle.std.proofs.lemmas.Result.{err_from_is_err_and}
use Rattle.matches.specs.Paper.{weight_match}
use Rattle.matching.specs.Answers.{answer_refused, answer_accepted, weights_bounded}
use Rattle.matching.proofs.weighted_match.Goals as goal

pub returns-in_err-of_weights : goal.returns-in_err-of_weights
unfolding weight_match
returns-in_err-of_weights c = let p = err_from_is_err_and c.from_residual.result c.from_residual.ensures.1 in
    rw (p.1, p.2) (answer_refused _ _ c.args.rows c.args.inputs c.args.outputs c.in_err-of_weights.ensures)

pub heaviest-requires : goal.heaviest-requires
heaviest-requires c = weights_bounded c.args.m c.args.n c.args.rows c.args.inputs c.args.outputs (sym c.in_ok-of_weights.ensures)

pub returns : goal.returns
unfolding weight_match
returns c = answer_accepted _ _ _ _ _ (sym c.in_ok-of_weights.ensures) c.heaviest.ensures
