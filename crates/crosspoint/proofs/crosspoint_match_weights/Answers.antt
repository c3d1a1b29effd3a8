-- `crosspoint::crosspoint_match_weights` meets its contract. Assumes nothing.
use Rattle.std.proofs.Common.{sym, ◌∙◌, ap, ap₂}
use Rattle.std.proofs.lemmas.Result.{err_from_is_err_and}
use Rattle.masks.specs.Tests.{and_true}
use mathlib.Core.List.{[], ◌∷◌}
use Rattle.card.specs.Limits as Limits
use Rattle.matches.specs.Paper.{Answer}
use Rattle.crosspoint.specs.Paper.{given, match_weights}
use Rattle.crosspoint.specs.Outcomes.{matched}
use Rattle.crosspoint.proofs.Outcomes.{long_passed, long_refused, first_long, second_long, refused, accepted, passed, answer_long_lem, weights_long_lem}
use Rattle.crosspoint.proofs.crosspoint_match_weights.Goals as goal

pub returns-in_err-weights_long : goal.returns-in_err-weights_long
unfolding match_weights given
returns-in_err-weights_long c = let p = err_from_is_err_and c.from_residual.result c.from_residual.ensures.1 in
    rw (p.1, p.2) (long_refused _ _ _ _ _ (first_long _ _ _ c.in_err-weights_long.ensures))

pub returns-in_err-answer_long : goal.returns-in_err-answer_long
unfolding match_weights given
returns-in_err-answer_long c = let p = err_from_is_err_and c.from_residual-in_err-answer_long.result c.from_residual-in_err-answer_long.ensures.1 in
    rw (p.1, p.2) (long_refused _ _ _ _ _ (second_long _ _ (long_passed _ c.in_ok-weights_long.ensures) c.in_err-answer_long.ensures))

pub numbers_in-requires : goal.numbers_in-requires
numbers_in-requires c = (weights_long_lem _ _ _ (long_passed _ c.in_ok-weights_long.ensures)).rows

pub numbers_in-requires-2 : goal.numbers_in-requires-2
numbers_in-requires-2 c = (weights_long_lem _ _ _ (long_passed _ c.in_ok-weights_long.ensures)).inputs

pub numbers_in-requires-3 : goal.numbers_in-requires-3
numbers_in-requires-3 c = (weights_long_lem _ _ _ (long_passed _ c.in_ok-weights_long.ensures)).outputs

pub returns-in_err-found : goal.returns-in_err-found
unfolding match_weights given
returns-in_err-found c = let p = err_from_is_err_and c.from_residual-in_err-found.result c.from_residual-in_err-found.ensures.1 in
    let f = rw (c.numbers_in.ensures, c.numbers_in-2.ensures, c.numbers_in-3.ensures) at c.in_err-found.ensures in
    rw (p.1, p.2) (refused _ _ _ _ (ap (λ (a : Answer). a.refusal) f) (Limits.refused _) ∙ passed _ 2 _ _ _ (and_true (long_passed _ c.in_ok-weights_long.ensures) (long_passed _ c.in_ok-answer_long.ensures)))

pub give-requires : goal.give-requires
give-requires c = let h = answer_long_lem _ _ (long_passed _ c.in_ok-answer_long.ensures) in (h.partners, h.totals)

pub returns : goal.returns
unfolding match_weights given
returns c =
    let f = rw (c.numbers_in.ensures, c.numbers_in-2.ensures, c.numbers_in-3.ensures) at c.in_ok-found.ensures in
    accepted _ _ _ _ (sym (ap (λ (a : Answer). a.refusal) f)) (ap₂ matched c.give.ensures.0 c.give.ensures.1 ∙ ap (λ (a : Answer). matched a.partners (a.pairs ∷ a.weighs ∷ [])) f)
    ∙ passed _ 2 _ _ _ (and_true (long_passed _ c.in_ok-weights_long.ensures) (long_passed _ c.in_ok-answer_long.ensures))
