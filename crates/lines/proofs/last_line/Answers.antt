-- `lines::last_line` meets its contract. Assumes nothing.
use Rattle.lines.specs.Paper.{last_line}
use Rattle.lines.specs.Text.{then, whole}
use Rattle.lines.proofs.last_line.Goals as goal

pub returns : goal.returns
unfolding last_line
returns c =
    let four = then (then (then c.field.ensures c.field-2.ensures) c.field-3.ensures) c.field-4.ensures in
    whole _ c.starting-line.ensures (then (then four c.field-5.ensures) c.end.ensures)
