-- `slotlog::writing::Given::slot` meets its contract. Assumes nothing.
use Rattle.std.proofs.Common.{ap, ◌+◌, ◌*◌, rules}
use Rattle.card.specs.declared.Arrivals.{Arrivals}
use Rattle.matches.specs.Paper.{at}
use Rattle.slotlog.specs.Paper.{given_slot}
use Rattle.slotlog.proofs.writing.Given.slot.Goals as goal

pub returns : goal.returns
unfolding given_slot
returns c =
    let given = c.args.self in
    let from = c.args.k * given.card.m in
    ap (λ (a : Arrivals). record { hold = at given.holds.now c.args.k; arrivals = a })
    (c.arrivals_of.ensures (λ i. at given.outputs.now (from + i)) (λ i. at given.cells.now (from + i)) (λ i arrival l post. search rules))
