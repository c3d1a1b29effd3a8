-- `crosspoint::records::record_in` meets its contract. Assumes nothing.
use Rattle.std.proofs.Common.{rules}
use Rattle.masks.specs.Tests.{and_both}
use Rattle.slot.specs.Paper.{blank}
use Rattle.crosspoint.specs.Paper.{holdable, heads_in, record_holds, record_in}
use Rattle.crosspoint.proofs.records.record_in.Goals as goal

pub take_counts-requires : goal.take_counts-requires
unfolding record_holds
take_counts-requires c = (search rules, search rules, (and_both _ _ c.requires.1).0)

pub take_counts-requires-2 : goal.take_counts-requires-2
unfolding record_holds
take_counts-requires-2 c = (search rules, search rules, (and_both (holdable (heads_in c.args.list.now)) _ c.requires.1).1)

pub returns : goal.returns
unfolding record_in blank
returns c = rw (c.of-record.ensures, c.take_counts.ensures, c.take_counts-2.ensures)
