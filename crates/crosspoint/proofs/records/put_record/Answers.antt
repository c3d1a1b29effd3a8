-- `crosspoint::records::put_record` meets its contract. Assumes nothing.
use Rattle.crosspoint.proofs.Record.{record_put}
use Rattle.crosspoint.proofs.records.put_record.Goals as goal

pub returns : goal.returns
returns c = record_put c.args.given.now c.args.list.now c.copy_from_slice.ensures.after c.put_counts.ensures c.put_counts.auto.list c.put_counts-2.ensures c.put_counts-2.auto.list
    c.copy_from_slice-2.ensures.after c.requires
