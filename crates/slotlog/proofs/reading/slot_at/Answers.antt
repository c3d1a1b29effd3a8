-- `slotlog::reading::slot_at` meets its contract. Assumes nothing.
use Rattle.std.proofs.Common.{◌∙◌, ap₂, ℕ, rules, ◌+◌, ◌*◌}
use Rattle.card.specs.declared.Arrivals.{Arrivals}
use Rattle.slotlog.specs.Paper.{number, slot_at}
use Rattle.slotlog.specs.Numbers.{read_four}
use Rattle.slotlog.proofs.reading.slot_at.Goals as goal

pub returns : goal.returns
unfolding slot_at
returns c =
    let log = c.args.log.now in
    let p = c.args.place in
    ap₂ (λ (h : ℕ) (a : Arrivals). record { hold = h; arrivals = a }) (c.from_le_bytes.ensures ∙ read_four c.bytes_at.result log p c.bytes_at.ensures)
    (c.arrivals_of.ensures (λ i. number 2 log (p + (4 + 6 * i))) (λ i. number 4 log (p + (6 + 6 * i))) (λ i arrival l post. search rules))
