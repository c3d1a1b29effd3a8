-- `crosspoint::crosspoint_fresh` meets its contract. Assumes nothing.
use Rattle.std.proofs.Common.{refl}
use Rattle.std.proofs.lemmas.Result.{err_from_is_err_and}
use Rattle.card.specs.Limits as Limits
use Rattle.crosspoint.specs.Paper.{fresh_lists}
use Rattle.crosspoint.proofs.Outcomes.{long_passed, long_refused}
use Rattle.crosspoint.proofs.Cards.{fresh_refused, fresh_done}
use Rattle.crosspoint.proofs.crosspoint_fresh.Goals as goal

pub returns-in_err-long : goal.returns-in_err-long
unfolding fresh_lists
returns-in_err-long c = let p = err_from_is_err_and c.from_residual.result c.from_residual.ensures.1 in
    rw (p.1, p.2) (long_refused _ _ _ _ _ c.in_err-long.ensures)

pub returns-in_err-fresh : goal.returns-in_err-fresh
returns-in_err-fresh c = let p = err_from_is_err_and c.from_residual-in_err-fresh.result c.from_residual-in_err-fresh.ensures.1 in
    rw (p.1, p.2) (fresh_refused _ _ _ _ _ c.in_err-fresh.ensures (long_passed _ c.in_ok-long.ensures) _ refl (Limits.refused _))

pub returns : goal.returns
returns c = fresh_done _ _ _ _ _ c.in_ok-fresh.ensures (long_passed _ c.in_ok-long.ensures) _ refl c.put_record.ensures
