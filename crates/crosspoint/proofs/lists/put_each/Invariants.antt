-- The invariant: what the conversion promises stands between the places passed. Assumes nothing.
use Rattle.std.proofs.Common.{ℕ, ◌<◌, get_or}
use Rattle.crosspoint.proofs.lists.put_each.Given as goal

abbrev pub invariant-loop-k : goal.invariant-loop-k
invariant-loop-k g l = (k : ℕ) (d : g.row.A.Denot) (e : g.row.B.Denot) → k < l.k → g.F.Fn.post l.convert (get_or l.given k d, tt) (get_or l.list k e)
