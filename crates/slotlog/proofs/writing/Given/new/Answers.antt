-- `slotlog::writing::Given::new` meets its contract. Assumes nothing.
use Rattle.std.proofs.Common.{arith}
use Rattle.slotlog.specs.WriteRefusals.{size_refusal, lists_are, full_is, short_enough}
use Rattle.slotlog.proofs.writing.Given.new.Goals as goal

pub invariant_of-result : goal.invariant_of-result
unfolding size_refusal
invariant_of-result c = let a = c.args in
    record { lists = lists_are a.card.m a.card.n a.card.d a.holds.now a.outputs.now a.cells.now (grind (arith, full_is, short_enough)) }
