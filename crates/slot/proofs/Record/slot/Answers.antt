-- `slot::Record::slot` meets its contract. Assumes nothing.
use Rattle.std.proofs.Common.{sym, ◌∙◌, refl, rules}
use Rattle.card.specs.Limits.{refused}
use Rattle.slot.proofs.Refused.{slot_refused, slot_accepted}
use Rattle.slot.proofs.Accepted.{fit}
use Rattle.slot.proofs.Record.slot.Goals as goal

pub returns-in-Err : goal.returns-in-Err
returns-in-Err c = slot_refused _ _ _ _ _ c.in-Err.ensures (refused _) refl

pub accepted-report-requires : goal.accepted-report-requires
accepted-report-requires c = fit _ _ _ (search rules) (search rules) (sym c.in_default.ensures)

pub returns : goal.returns
returns c = c.accepted-report.ensures ∙ slot_accepted _ _ _ (sym c.in_default.ensures)
