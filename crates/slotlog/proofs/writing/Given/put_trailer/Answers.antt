-- `slotlog::writing::Given::put_trailer` meets its contract. Assumes nothing.
use Rattle.std.proofs.Common.{◌∙◌, length}
use Rattle.slotlog.specs.Numbers.{two_bytes, four_bytes}
use Rattle.slotlog.specs.Put.{put_as, put_trailer}
use Rattle.slotlog.proofs.writing.Given.put_trailer.Goals as goal

pub returns : goal.returns
returns c =
    let card = c.args.self.card in
    let back = c.records_length-back.result in
    let slots = length c.args.self.holds.now in
    let put = put_trailer back card.m card.n card.d slots
    (put_as (c.to_le_bytes.ensures ∙ four_bytes back) c.put.ensures)
    (put_as (c.to_le_bytes-2.ensures ∙ two_bytes card.m) c.put-2.ensures)
    (put_as (c.to_le_bytes-3.ensures ∙ two_bytes card.n) c.put-3.ensures)
    (put_as (c.to_le_bytes-4.ensures ∙ two_bytes card.d) c.put-4.ensures)
    (put_as (c.to_le_bytes-5.ensures ∙ four_bytes slots) c.put-5.ensures)
    c.put-6.ensures in
    rw c.records_length-back.ensures.0 at put
