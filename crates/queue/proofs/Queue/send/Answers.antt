-- `queue::Queue::send` meets its contract. Assumes nothing.
use Rattle.std.proofs.Common.{sym, ◌∙◌, arith}
use Rattle.queue.specs.Steps.{send_oldest}
use Rattle.queue.proofs.Queue.send.Goals as goal

pub returns-clause-sent : goal.returns-clause-sent
returns-clause-sent c = rw c.wait.ensures (send_oldest _ _ (sym c.stands.ensures ∙ c.if-not-stands.false) (omega (arith, c.if-self-eq0.false)))
