-- `crosspoint::records::put_report` meets its contract. Assumes nothing.
use Rattle.slot.specs.Answers.{report_of}
use Rattle.crosspoint.proofs.Record.{report_put}
use Rattle.crosspoint.proofs.records.put_report.Goals as goal

pub returns : goal.returns
returns c = report_put (report_of c.args.given.now) c.args.list.now c.put_wide_outputs.ensures c.put_wide_outputs.auto.list c.copy_from_slice.ensures.after c.copy_from_slice.auto.self
    c.copy_from_slice-2.ensures.after c.copy_from_slice-2.auto.self c.copy_from_slice-3.ensures.after c.requires
