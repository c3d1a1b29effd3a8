-- `slotlog::reading::Head::slot` meets its contract: every record lies in front of the trailer. Assumes nothing.
use Rattle.slotlog.specs.Reading.{known_inside}
use Rattle.slotlog.proofs.reading.Head.slot.Goals as goal

pub slot_at-requires-clause-inside : goal.slot_at-requires-clause-inside
slot_at-requires-clause-inside c = rw c.record_length.ensures (known_inside c.args.self.known c.args.k c.requires)
