-- `slotlog::write` meets its contract. Assumes nothing.
use Rattle.std.proofs.Common.{◌∙◌, length, rules}
use Rattle.std.proofs.lemmas.Result.{err_from_is_err_and}
use Rattle.card.specs.Limits.{refused}
use Rattle.slotlog.specs.WriteRefusals.{by_sizes}
use Rattle.slotlog.specs.Answers.{unwritten}
use Rattle.slotlog.specs.Writer.{write_as, unwritten_records, unwritten_room, written_good, room_is}
use Rattle.slotlog.proofs.write.Goals as goal

pub returns-in_err-given : goal.returns-in_err-given
returns-in_err-given c =
    let a = c.args in
    let p = err_from_is_err_and c.from_residual.result c.from_residual.ensures.1 in
    rw (p.1, p.2) (unwritten a.card.m a.card.n a.card.d a.holds.now a.outputs.now a.cells.now a.buffer.now _
    (by_sizes a.card.m a.card.n a.card.d a.holds.now a.outputs.now a.cells.now (length a.buffer.now) _ c.in_err-given.ensures.refusal (refused _)))

pub returns-in_err-check_records : goal.returns-in_err-check_records
returns-in_err-check_records c =
    let a = c.args in
    let given = c.in_ok-given.given in
    let p = err_from_is_err_and c.from_residual-in_err-check_records.result c.from_residual-in_err-check_records.ensures.1 in
    rw (p.1, p.2) (unwritten_records given a.buffer.now _ c.in_err-check_records.ensures ∙ write_as given a.card a.holds.now a.outputs.now a.cells.now a.buffer.now c.in_ok-given.ensures.same)

pub returns-in_err-check_room : goal.returns-in_err-check_room
returns-in_err-check_room c =
    let a = c.args in
    let given = c.in_ok-given.given in
    let p = err_from_is_err_and c.from_residual-in_err-check_room.result c.from_residual-in_err-check_room.ensures.1 in
    rw (p.1, p.2) (unwritten_room given a.buffer.now _ (search rules) c.in_err-check_room.ensures ∙ write_as given a.card a.holds.now a.outputs.now a.cells.now a.buffer.now c.in_ok-given.ensures.same)

pub put-requires : goal.put-requires
put-requires c = room_is c.in_ok-given.given (length c.args.buffer.now) c.in_ok-check_room.ensures

pub returns : goal.returns
returns c =
    let a = c.args in
    let given = c.in_ok-given.given in
    written_good given a.buffer.now c.in_ok-check_records.ensures c.in_ok-check_room.ensures c.put.ensures ∙ write_as given a.card a.holds.now a.outputs.now a.cells.now a.buffer.now c.in_ok-given.ensures.same
