-- `slotlog::check` meets its contract. Assumes nothing.
use Rattle.std.proofs.Common.{ap, ◌∙◌, rules}
use Rattle.std.proofs.lemmas.Result.{err_from_is_err_and}
use Rattle.slotlog.specs.Paper.{slot_of, check}
use Rattle.slotlog.specs.Answers.{check_head, check_record, check_good}
use Rattle.slotlog.proofs.check.Goals as goal

pub returns-in_err-head : goal.returns-in_err-head
returns-in_err-head c = let p = err_from_is_err_and c.from_residual.result c.from_residual.ensures.1 in rw (p.1, p.2) (check_head c.args.log.now _ c.in_err-head.ensures.refusal)

pub returns-in_err-first_fault : goal.returns-in_err-first_fault
returns-in_err-first_fault c =
    let head = c.in_ok-head.head in
    let fault = c.in_err-first_fault.ensures (slot_of head.log.now) (λ k s l post. search rules) in
    let p = err_from_is_err_and c.from_residual-in_err-first_fault.result c.from_residual-in_err-first_fault.ensures.1 in
    rw (p.1, p.2) (check_record head.log.now head.known _ fault ∙ ap check c.in_ok-head.ensures.same)

pub returns : goal.returns
returns c =
    let head = c.in_ok-head.head in
    let fault = c.in_ok-first_fault.ensures (slot_of head.log.now) (λ k s l post. search rules) in
    check_good head.log.now head.known fault ∙ ap check c.in_ok-head.ensures.same
