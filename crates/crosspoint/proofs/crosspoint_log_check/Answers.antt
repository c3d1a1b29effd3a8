-- `crosspoint::crosspoint_log_check` meets its contract. Assumes nothing.
use Rattle.std.proofs.Common.{refl}
use Rattle.std.proofs.lemmas.Result.{err_from_is_err_and}
use Rattle.card.specs.Limits as Limits
use Rattle.crosspoint.proofs.Outcomes.{long_passed}
use Rattle.crosspoint.proofs.Logs.{check_short, check_refused, check_passed}
use Rattle.crosspoint.proofs.crosspoint_log_check.Goals as goal

pub returns-in_err-long : goal.returns-in_err-long
returns-in_err-long c = let p = err_from_is_err_and c.from_residual.result c.from_residual.ensures.1 in rw (p.1, p.2) (check_short _ _ _ c.in_err-long.ensures)

pub returns-in_err-checked : goal.returns-in_err-checked
returns-in_err-checked c = let p = err_from_is_err_and c.from_residual-in_err-checked.result c.from_residual-in_err-checked.ensures.1 in
    rw (p.1, p.2) (check_refused _ _ (long_passed _ c.in_ok-long.ensures) _ c.in_err-checked.ensures _ refl (Limits.refused _))

pub returns : goal.returns
returns c = check_passed _ _ (long_passed _ c.in_ok-long.ensures) _ c.in_ok-checked.ensures _ refl _ refl c.copy_from_slice.ensures.after
