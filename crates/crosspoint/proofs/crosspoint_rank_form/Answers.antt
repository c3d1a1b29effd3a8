-- `crosspoint::crosspoint_rank_form` meets its contract. Assumes nothing.
use Rattle.std.proofs.Common.{sym, ◌∙◌, ap, ap₂, rules}
use Rattle.std.proofs.lemmas.Result.{err_from_is_err_and}
use Rattle.card.specs.Limits as Limits
use Rattle.matches.specs.Paper.{RankForm}
use Rattle.crosspoint.specs.Paper.{rank_lists}
use Rattle.crosspoint.specs.Outcomes.{weights}
use Rattle.crosspoint.proofs.Outcomes.{long_passed, long_refused, refused, accepted, passed, weights_long_lem}
use Rattle.crosspoint.proofs.crosspoint_rank_form.Goals as goal

pub returns-in_err-weights_long : goal.returns-in_err-weights_long
unfolding rank_lists
returns-in_err-weights_long c = let p = err_from_is_err_and c.from_residual.result c.from_residual.ensures.1 in
    rw (p.1, p.2) (long_refused _ _ _ _ _ c.in_err-weights_long.ensures)

pub numbers_in-requires : goal.numbers_in-requires
numbers_in-requires c = (weights_long_lem _ _ _ (long_passed _ c.in_ok-weights_long.ensures)).rows

pub numbers_in-requires-2 : goal.numbers_in-requires-2
numbers_in-requires-2 c = (weights_long_lem _ _ _ (long_passed _ c.in_ok-weights_long.ensures)).inputs

pub numbers_in-requires-3 : goal.numbers_in-requires-3
numbers_in-requires-3 c = (weights_long_lem _ _ _ (long_passed _ c.in_ok-weights_long.ensures)).outputs

pub returns-in_err-form : goal.returns-in_err-form
unfolding rank_lists
returns-in_err-form c = let p = err_from_is_err_and c.from_residual-in_err-form.result c.from_residual-in_err-form.ensures.1 in
    let f = rw (c.numbers_in.ensures, c.numbers_in-2.ensures, c.numbers_in-3.ensures) at c.in_err-form.ensures in
    rw (p.1, p.2) (refused _ _ _ _ (ap (λ (r : RankForm). r.refusal) f) (Limits.refused _) ∙ passed _ 2 _ _ _ (long_passed _ c.in_ok-weights_long.ensures))

pub copy_from_slice-requires : goal.copy_from_slice-requires
copy_from_slice-requires c = (weights_long_lem _ _ _ (long_passed _ c.in_ok-weights_long.ensures)).inputs ∙ search rules

pub copy_from_slice-requires-2 : goal.copy_from_slice-requires-2
copy_from_slice-requires-2 c = (weights_long_lem _ _ _ (long_passed _ c.in_ok-weights_long.ensures)).outputs ∙ search rules

pub returns : goal.returns
unfolding rank_lists
returns c =
    let f = rw (c.numbers_in.ensures, c.numbers_in-2.ensures, c.numbers_in-3.ensures) at c.in_ok-form.ensures in
    accepted _ _ _ _ (sym (ap (λ (r : RankForm). r.refusal) f))
    (ap₂ weights c.copy_from_slice.ensures.after c.copy_from_slice-2.ensures.after ∙ ap (λ (r : RankForm). weights r.inputs r.outputs) f)
    ∙ passed _ 2 _ _ _ (long_passed _ c.in_ok-weights_long.ensures)
