-- `slotlog::read` meets its contract. Assumes nothing.
use Rattle.std.proofs.Common.{ap, ◌∙◌, List, ℕ, arith}
use Rattle.std.proofs.lemmas.Result.{err_from_is_err_and}
use Rattle.slotlog.specs.Paper.{read}
use Rattle.slotlog.specs.Answers.{unread_head, unread_past, unread_record, read_good}
use Rattle.slotlog.proofs.read.Goals as goal

pub returns-in_err-head : goal.returns-in_err-head
returns-in_err-head c = let p = err_from_is_err_and c.from_residual.result c.from_residual.ensures.1 in rw (p.1, p.2) (unread_head c.args.log.now c.args.slot _ c.in_err-head.ensures.refusal)

pub returns-then-slot-head : goal.returns-then-slot-head
returns-then-slot-head c =
    unread_past c.in_ok-head.head.log.now c.args.slot c.in_ok-head.head.known (omega arith) ∙ ap (λ (l : List ℕ). read l c.args.slot) c.in_ok-head.ensures.same

pub returns-in_err-check : goal.returns-in_err-check
returns-in_err-check c =
    let head = c.in_ok-head.head in
    let p = err_from_is_err_and c.from_residual-in_err-check.result c.from_residual-in_err-check.ensures.1 in
    rw (p.1, p.2) (unread_record head.log.now c.args.slot head.known c.slot-found.result _ c.slot-found.ensures (omega arith) c.in_err-check.ensures ∙ ap (λ (l : List ℕ). read l c.args.slot) c.in_ok-head.ensures.same)

pub returns : goal.returns
returns c =
    let head = c.in_ok-head.head in
    read_good head.log.now c.args.slot head.known c.slot-found.result c.slot-found.ensures (omega arith) c.in_ok-check.ensures ∙ ap (λ (l : List ℕ). read l c.args.slot) c.in_ok-head.ensures.same
