-- `crosspoint::crosspoint_match_table` meets its contract. Assumes nothing.
use Rattle.std.proofs.Common.{sym, ◌∙◌, ap, ap₂}
use Rattle.std.proofs.lemmas.Result.{err_from_is_err_and}
use Rattle.card.specs.Limits as Limits
use mathlib.Core.List.{[], ◌∷◌}
use Rattle.matches.specs.Paper.{Answer}
use Rattle.crosspoint.specs.Paper.{given, match_table}
use Rattle.crosspoint.specs.Outcomes.{matched}
use Rattle.crosspoint.proofs.Outcomes.{long_passed, long_refused, refused, accepted, passed, answer_long_lem}
use Rattle.crosspoint.proofs.crosspoint_match_table.Goals as goal

pub returns-in_err-answer_long : goal.returns-in_err-answer_long
unfolding match_table given
returns-in_err-answer_long c = let p = err_from_is_err_and c.from_residual.result c.from_residual.ensures.1 in
    rw (p.1, p.2) (long_refused _ _ _ _ _ c.in_err-answer_long.ensures)

pub returns-in_err-found : goal.returns-in_err-found
unfolding match_table given
returns-in_err-found c = let p = err_from_is_err_and c.from_residual-in_err-found.result c.from_residual-in_err-found.ensures.1 in
    rw (p.1, p.2) (refused _ _ _ _ (ap (λ (a : Answer). a.refusal) c.in_err-found.ensures) (Limits.refused _) ∙ passed _ 2 _ _ _ (long_passed _ c.in_ok-answer_long.ensures))

pub give-requires : goal.give-requires
give-requires c = let h = answer_long_lem _ _ (long_passed _ c.in_ok-answer_long.ensures) in (h.partners, h.totals)

pub returns : goal.returns
unfolding match_table given
returns c =
    let f = c.in_ok-found.ensures in
    accepted _ _ _ _ (sym (ap (λ (a : Answer). a.refusal) f)) (ap₂ matched c.give.ensures.0 c.give.ensures.1 ∙ ap (λ (a : Answer). matched a.partners (a.pairs ∷ a.weighs ∷ [])) f)
    ∙ passed _ 2 _ _ _ (long_passed _ c.in_ok-answer_long.ensures)
