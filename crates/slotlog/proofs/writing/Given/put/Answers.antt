-- `slotlog::writing::Given::put` meets its contract. Assumes nothing.
use Rattle.std.proofs.Common.{◌≡◌, sym, ◌∙◌, refl, length, arith, rules}
use Rattle.slotlog.specs.Paper.{slot_bytes}
use Rattle.slotlog.specs.Put.{put_none, put_next}
use Rattle.slotlog.specs.Records.{length_slot}
use Rattle.slotlog.specs.Given.{filled}
use Rattle.slotlog.specs.Writer.{slot_of}
use Rattle.slotlog.proofs.writing.Given.put.Goals as goal

pub loop-k-init : goal.loop-k-init
loop-k-init c = record { passed = omega arith; long = refl; put = put_none _ _ _ }

pub loop-k-preserved : goal.loop-k-preserved
loop-k-preserved c =
    let given = c.args.self in
    let slot = c.put_slot.ensures in
    record {
      passed = omega arith;
      long = search rules;
      put = put_next c.record_length-size.result (λ i. slot_bytes given.card.m (slot_of given i))
          (λ i. length_slot given.card.m (slot_of given i) ∙ sym c.record_length-size.ensures) c.loop-k.invariant.put slot (omega arith);
    }

pub returns : goal.returns
returns c =
    let a = c.args.self in
    let all : c.loop-k.k ≡ length a.holds.now = omega arith in
    let records = rw all at c.loop-k.invariant.put in
    rw (c.records_length.ensures.0) (filled a.card.m a.card.n a.card.d a.holds.now a.outputs.now a.cells.now c.requires records c.put_trailer.ensures)
