-- The invariant: the arrivals passed are put. Assumes nothing.
use Rattle.std.proofs.Common.{◌≡◌, ◌≤◌, ◌+◌, length, drop}
use Rattle.std.specs.Slice.Iter.{iter_rest}
use Rattle.std.specs.Iterator.Adapters.{zip_first, zip_second}
use Rattle.slotlog.specs.Paper.{joined}
use Rattle.slotlog.specs.Records.{bytes_in}
use Rattle.slotlog.specs.Put.{Put}
use Rattle.slotlog.proofs.writing.put_record.Given as goal

abbrev pub invariant-loop-i : goal.invariant-loop-i
invariant-loop-i l = record {
  outputs : iter_rest (zip_first l.i-iterator.iter) ≡ drop l.i-iterator.count l.outputs;
  cells : iter_rest (zip_second l.i-iterator.iter) ≡ drop l.i-iterator.count l.cells;
  passed : l.i-iterator.count ≤ length l.outputs;
  long : length l.buffer ≡ length l.initial.buffer;
  put : Put l.initial.buffer (l.place + 4) (joined l.i-iterator.count (bytes_in l.outputs l.cells)) l.buffer;
}
