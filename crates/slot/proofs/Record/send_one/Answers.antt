-- `slot::Record::send_one` meets its contract. Assumes nothing.
use Rattle.std.proofs.Common.{◌≡◌, ◌+◌, ◌-◌, ◌*◌, arith}
use Rattle.slot.specs.Ready.{here_is}
use Rattle.slot.specs.Sending.{can_from, from_sent, one_none, one_some}
use Rattle.slot.proofs.Record.send_one.Goals as goal

pub returns-then-output-eq-NONE : goal.returns-then-output-eq-NONE
returns-then-output-eq-NONE c = λ told waits. one_none _ _ _ c.if-output-eq-NONE.true

pub slice_bounds-send-end : goal.slice_bounds-send-end
slice_bounds-send-end c = let f = can_from _ _ _ c.requires c.if-output-eq-NONE.false in rw c.index-k.ensures (here_is _ f.ready _ f.here).in_cells

pub returns : goal.returns
returns c = let a = c.args in
    let k = c.index-k.result in
    let d = a.self.now.card.d in
    let x = c.send-sent in
    let w : (k * d + d) - k * d ≡ d = omega arith in
    let f = rw (← c.index-k.ensures) at (can_from _ _ _ c.requires c.if-output-eq-NONE.false) in
    let some = rw c.queue-queue.ensures at x.ensures.some in
    let sent = rw c.queue-queue.ensures at x.ensures.sent in
    λ told waits. one_some _ _ _ _ _ c.if-output-eq-NONE.false c.index-k.ensures
    (rw c.one_departed-self.ensures (from_sent a.self.now a.cells.now a.stamps.now _ k _ x.result x.new.self _ _ told waits f w some sent))
