-- The invariant: the stage of the search, with nothing found. Assumes nothing.
use Prim.Native.Nat.{◌+◌, ◌-◌}
use Rattle.search.specs.Reach.{Searching}
use Rattle.search.proofs.reach.Search.reach.Given as goal

abbrev pub invariant-loop-s : goal.invariant-loop-s
invariant-loop-s l = Searching l.rows l.p l.u l.s

abbrev pub decreases-loop-s : goal.decreases-loop-s
decreases-loop-s l = 64 - (l.s.at + l.s.len)
