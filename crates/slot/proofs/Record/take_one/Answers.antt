-- `slot::Record::take_one` meets its contract. Assumes nothing.
use Rattle.std.proofs.Common.{◌≡◌, ◌+◌, ◌-◌, ◌*◌, ap, arith}
use Rattle.queue.specs.declared.Queue.{Queue}
use Rattle.slot.specs.Ready.{here_is}
use Rattle.slot.specs.Arriving.{bound_into, in_full, in_room, one_none, one_some}
use Rattle.slot.proofs.Record.take_one.Goals as goal

pub returns-then-output-eq-NONE : goal.returns-then-output-eq-NONE
returns-then-output-eq-NONE c = λ d. one_none _ _ _ _ c.if-output-eq-NONE.true

pub returns-then-depth-queue : goal.returns-then-depth-queue
returns-then-depth-queue c = let a = c.args in
    let l = rw c.queue-queue.ensures at c.if-depth-queue.true in
    λ d. one_some _ _ _ _ _ _ c.if-output-eq-NONE.false c.index-k.ensures
    (rw c.one_dropped-self.ensures (in_full a.self.now a.cells.now a.stamps.now a.i.0 c.index-k.result a.cell d l))

pub slice_bounds-store-end : goal.slice_bounds-store-end
slice_bounds-store-end c = let f = bound_into _ _ _ c.requires c.if-output-eq-NONE.false in rw c.index-k.ensures (here_is _ f.ready _ f.here).in_cells

pub returns : goal.returns
returns c = let a = c.args in
    let k = c.index-k.result in
    let n = a.self.now.card.d in
    let w : (k * n + n) - k * n ≡ n = omega arith in
    let f = rw (← c.index-k.ensures) at (bound_into _ _ _ c.requires c.if-output-eq-NONE.false) in
    let s = rw c.queue-queue.ensures at c.store.ensures in
    λ d. one_some _ _ _ _ _ _ c.if-output-eq-NONE.false c.index-k.ensures
    (rw c.one_stored-self.ensures (in_room a.self.now a.cells.now a.stamps.now a.i.0 k a.cell d _ c.store.new.self c.store.new.cells c.store.new.stamps f (omega (arith, ap (λ (x : Queue). x.count) c.queue-queue.ensures)) w s))
