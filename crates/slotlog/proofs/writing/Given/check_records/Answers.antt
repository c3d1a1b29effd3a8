-- `slotlog::writing::Given::check_records` meets its contract. Assumes nothing.
use Rattle.std.proofs.Common.{ap, ◌∙◌, rules}
use Rattle.slotlog.specs.Faults.{refusal_of}
use Rattle.slotlog.specs.Reading.{fault_number}
use Rattle.slotlog.specs.Writer.{slot_of}
use Rattle.slotlog.specs.WriteRefusals.{records_refusal}
use Rattle.slotlog.proofs.writing.Given.check_records.Goals as goal

pub returns : goal.returns
unfolding records_refusal
returns c =
    fault_number c.first_fault-found.result c.map_err.result _ (λ f r p. search rules) c.map_err.ensures.cases
    ∙ ap refusal_of (c.first_fault-found.ensures (slot_of c.args.self) (λ k s l post. search rules))
