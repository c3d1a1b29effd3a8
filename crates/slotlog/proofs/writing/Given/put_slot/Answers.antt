-- `slotlog::writing::Given::put_slot` meets its contract. Assumes nothing.
use Rattle.std.proofs.Common.{◌≡◌, ◌∙◌, ◌+◌, ◌-◌, ◌*◌, ◌<◌, ℕ, List, length, take, drop, get_or-take, get_or-drop, length-take, arith}
use Rattle.std.proofs.lemmas.List.{length-drop}
use Rattle.matches.specs.Paper.{at}
use Rattle.slotlog.specs.Given.{record_given}
use Rattle.slotlog.specs.Joined.{part_inside}
use Rattle.slotlog.specs.Put.{put_as}
use Rattle.slotlog.proofs.writing.Given.put_slot.Goals as goal

-- the part of slot k: its entries, and how many
in_part : (l : List ℕ) (from m i : ℕ) → i < m → at (take (from + m - from) (drop from l)) i ≡ at l (from + i)
in_part l from m i h = get_or-take (from + m - from) (drop from l) i 0 (omega arith) ∙ get_or-drop from l i 0

long_part : (l : List ℕ) (k n m : ℕ) → k < n → length l ≡ n * m → length (take (k * m + m - k * m) (drop (k * m) l)) ≡ m
long_part l k n m h e = omega (arith, e, part_inside k n m h, length-take (k * m + m - k * m) (drop (k * m) l), length-drop (k * m) l)

pub returns : goal.returns
returns c =
    let g = c.args.self in
    let from = c.args.k * g.card.m in
    put_as (record_given g.card.m g.card.n g.card.d g.holds.now g.outputs.now g.cells.now c.args.k _ _ g.lists.sizes.ports.ins.high (long_part g.outputs.now c.args.k (length g.holds.now) g.card.m c.requires.there g.lists.outputs_full)
    (in_part g.outputs.now from g.card.m) (in_part g.cells.now from g.card.m)) c.put_record.ensures
