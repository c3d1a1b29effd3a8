-- `crosspoint::crosspoint_log_write` meets its contract. Assumes nothing.
use Rattle.crosspoint.proofs.Logs.{write_put}
use Rattle.crosspoint.proofs.crosspoint_log_write.Goals as goal

pub returns : goal.returns
returns c = write_put _ _ _ _ _ _ _ _ _ c.write.ensures
