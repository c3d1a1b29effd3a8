-- `matching::rank_form` meets its contract. Assumes nothing.
use Rattle.std.proofs.Common.{refl, sym}
use Rattle.std.proofs.lemmas.Result.{err_from_is_err_and}
use Rattle.matches.specs.Paper.{rank_form}
use Rattle.matching.specs.Answers.{form_refused, form_accepted}
use Rattle.matching.proofs.rank_form.Goals as goal

pub returns-in_err-of_weights : goal.returns-in_err-of_weights
unfolding rank_form
returns-in_err-of_weights c = let p = err_from_is_err_and c.from_residual.result c.from_residual.ensures.1 in
    rw (p.1, p.2) (form_refused _ _ c.args.rows c.args.inputs c.args.outputs c.in_err-of_weights.ensures)

pub returns : goal.returns
unfolding rank_form
returns c = form_accepted _ _ _ _ _ _ (sym c.in_ok-of_weights.ensures) c.asking.ensures.is c.asking_outs.ensures
    (record { rows = _; inputs = _; outputs = _ }) refl c.ranks.ensures c.ranks-2.ensures
