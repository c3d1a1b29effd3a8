-- `lines::slot_line` meets its contract. Assumes nothing.
use Rattle.lines.specs.Paper.{slot_line}
use Rattle.lines.specs.Text.{then, whole}
use Rattle.lines.proofs.slot_line.Goals as goal

pub returns : goal.returns
unfolding slot_line
returns c =
    let four = then (then (then c.field.ensures c.field-2.ensures) c.field-3.ensures) c.field-4.ensures in
    whole _ c.starting-line.ensures (then (then four c.sendings.ensures) c.end.ensures)
