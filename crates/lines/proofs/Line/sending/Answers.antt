-- `lines::Line::sending` meets its contract. Assumes nothing.
use Rattle.lines.specs.Paper.{sending}
use Rattle.lines.specs.Text.{then}
use Rattle.lines.proofs.Line.sending.Goals as goal

pub returns : goal.returns
unfolding sending
returns c = simp (c.from.ensures, c.from-2.ensures) at (then (then (then c.number.ensures c.number-2.ensures) c.number-3.ensures) c.number-4.ensures)
