-- A refusal's number has less than 32 bits. Assumes nothing.
use Rattle.std.specs.Prelude.{◌<◌}
use Rattle.std.proofs.Common.{arith}
use Rattle.card.specs.declared.Refusal.{Refusal}
use Rattle.card.specs.declared.Refusal.TheVariants.{Size, Length, Hold, Arrival, Row, Weight, Record, Log, Back, Buffer, Slot}
use Rattle.card.specs.Paper.{refusal_number}

pub small : (r : Refusal) → refusal_number r < 4294967296
small Size = omega arith
small Length = omega arith
small Hold = omega arith
small Arrival = omega arith
small Row = omega arith
small Weight = omega arith
small Record = omega arith
small Log = omega arith
small Back = omega arith
small Buffer = omega arith
small Slot = omega arith
