-- `crosspoint::crosspoint_slot` meets its contract. Assumes nothing.
use Rattle.std.proofs.Common.{sym, ◌∙◌, ap}
use Rattle.std.proofs.lemmas.Result.{err_from_is_err_and}
use Rattle.card.specs.Limits as Limits
use Rattle.card.specs.Paper.{number_of}
use Rattle.slot.specs.Answers.{reported}
use Rattle.crosspoint.specs.Paper.{slot_lists, report_list}
use Rattle.crosspoint.proofs.Outcomes.{long_passed, long_refused, slot_long_lem}
use Rattle.crosspoint.proofs.Cards.{slot_unheld, slot_refused, slot_done}
use Rattle.crosspoint.proofs.crosspoint_slot.Goals as goal

pub returns-in_err-slot_long : goal.returns-in_err-slot_long
unfolding slot_lists
returns-in_err-slot_long c = let p = err_from_is_err_and c.from_residual.result c.from_residual.ensures.1 in
    rw (p.1, p.2) (long_refused _ _ _ _ _ c.in_err-slot_long.ensures)

pub record_holds-requires : goal.record_holds-requires
record_holds-requires c = (slot_long_lem _ _ _ _ (long_passed _ c.in_ok-slot_long.ensures)).kept

pub returns-then-not-record_holds : goal.returns-then-not-record_holds
returns-then-not-record_holds c = slot_unheld _ _ _ _ _ _ _ (long_passed _ c.in_ok-slot_long.ensures) (sym c.record_holds.ensures ∙ c.if-not-record_holds.true)

pub outputs_in-requires : goal.outputs_in-requires
outputs_in-requires c = (slot_long_lem _ _ _ _ (long_passed _ c.in_ok-slot_long.ensures)).outputs

pub numbers_in-requires : goal.numbers_in-requires
numbers_in-requires c = (slot_long_lem _ _ _ _ (long_passed _ c.in_ok-slot_long.ensures)).arriving

pub record_in-requires : goal.record_in-requires
record_in-requires c = ((slot_long_lem _ _ _ _ (long_passed _ c.in_ok-slot_long.ensures)).kept, sym c.record_holds.ensures ∙ c.if-not-record_holds.false)

pub returns-in_err-said : goal.returns-in_err-said
returns-in_err-said c = let p = err_from_is_err_and c.from_residual-in_err-said.result c.from_residual-in_err-said.ensures.1 in
    let f = rw (c.record_in.ensures, c.outputs_in.ensures, c.numbers_in.ensures) at c.slot-done.ensures in
    let l = long_passed _ c.in_ok-slot_long.ensures in
    let h = sym c.record_holds.ensures ∙ c.if-not-record_holds.false in
    let z = ap (λ o. number_of o) c.in_err-said.was in
    rw (p.1, p.2) (slot_refused c.args.hold c.args.outputs.now c.args.arriving.now c.args.kept.now c.args.cells.now c.args.stamps.now c.args.report.now _ f l h _ (sym z) (Limits.refused _))

pub put_record-requires : goal.put_record-requires
put_record-requires c = (slot_long_lem _ _ _ _ (long_passed _ c.in_ok-slot_long.ensures)).kept

pub put_report-requires : goal.put_report-requires
put_report-requires c = (slot_long_lem _ _ _ _ (long_passed _ c.in_ok-slot_long.ensures)).report

pub returns : goal.returns
returns c =
    let f = rw (c.record_in.ensures, c.outputs_in.ensures, c.numbers_in.ensures) at c.slot-done.ensures in
    let l = long_passed _ c.in_ok-slot_long.ensures in
    let h = sym c.record_holds.ensures ∙ c.if-not-record_holds.false in
    let w = c.in_ok-said.was in
    slot_done c.args.hold c.args.outputs.now c.args.arriving.now c.args.kept.now c.args.cells.now c.args.stamps.now c.args.report.now _ f l h c.put_record.new.list c.put_report.new.list
    (ap (λ o. number_of o) w) c.put_record.ensures (c.put_report.ensures ∙ ap (λ o. report_list (reported o)) (sym w))
