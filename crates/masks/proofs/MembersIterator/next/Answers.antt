-- `masks::Members::next` meets its contract. Assumes nothing.
use Rattle.std.proofs.Common.{arith}
use Rattle.masks.proofs.Counting.{count_without}
use Rattle.masks.proofs.MembersIterator.next.Goals as goal

pub returns-clause-goes : goal.returns-clause-goes
returns-clause-goes c = let l = c.first-j.ensures.inside (omega arith) in
    record {
      on = λ _. (tt, tt, omega (arith, count_without 32 _ _ _ l (c.first-j.ensures.here l) c.without-self.ensures));
      keeps = tt;
      rests = λ _. tt;
    }
