-- `lines::refusal_line` meets its contract. Assumes nothing.
use Rattle.lines.specs.Paper.{refusal_line}
use Rattle.lines.specs.Text.{then, whole}
use Rattle.lines.proofs.refusal_line.Goals as goal

pub returns : goal.returns
unfolding refusal_line
returns c = whole _ c.starting-line.ensures (then (then c.field.ensures c.field-2.ensures) c.end.ensures)
