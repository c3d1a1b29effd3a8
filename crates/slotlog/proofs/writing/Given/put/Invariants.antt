-- The invariant: the records passed are put. Assumes nothing.
use Rattle.std.proofs.Common.{◌≡◌, ◌≤◌, length}
use Rattle.slotlog.specs.Paper.{joined, slot_bytes}
use Rattle.slotlog.specs.Writer.{slot_of}
use Rattle.slotlog.specs.Put.{Put}
use Rattle.slotlog.proofs.writing.Given.put.Given as goal

abbrev pub invariant-loop-k : goal.invariant-loop-k
invariant-loop-k l = record {
  passed : l.k ≤ length l.self.holds.now;
  long : length l.buffer ≡ length l.initial.buffer;
  put : Put l.initial.buffer 0 (joined l.k (λ i. slot_bytes l.self.card.m (slot_of l.self i))) l.buffer;
}
