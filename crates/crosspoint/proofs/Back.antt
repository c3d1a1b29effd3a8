-- The record that a list says is the record that was put into it: so a run over the C interface, each call given what the last one left, is a run of
-- document 01's card, and what `runs` says of such runs holds of it. Assumes nothing.
use Rattle.std.specs.Prelude.{◌≡◌, true, ℕ, ◌+◌, ◌<◌, length, take}
use Rattle.std.proofs.Common.{sym, ◌∙◌, arith, length-append, drop_at}
use Rattle.std.proofs.Math.Path.{ap}
use mathlib.Core.List.{List, [], ◌∷◌, ◌++◌, append_assoc}
use Rattle.std.proofs.Math.Seq.{take_at, get_or-append-add}
use borrow.Author.Tests.{lt-ltb}
use Rattle.masks.specs.Tests.{and_true, at_every}
use Rattle.matches.specs.Paper.{at}
use Rattle.slot.specs.declared.Record.{Record}
use Rattle.slot.specs.Paper.{slot}
use Rattle.crosspoint.specs.Paper.{outcome, lent_of, record_list, record_in, heads_in, counts_in, holdable, record_holds, report_list, arrivals_in, slot_long, slot_lists}
use Rattle.crosspoint.specs.Outcomes.{slotted}

-- what a record of the code has: 1,024 heads and counts, of 16 bits each
pub record Kept (r : Record) : Type 0 where
  pub heads_long : length r.heads ≡ 1024
  pub counts_long : length r.counts ≡ 1024
  pub heads_fit : (k : ℕ) → at r.heads k < 65536
  pub counts_fit : (k : ℕ) → at r.counts k < 65536

module _ (r : Record) (h : Kept r) where
  -- the list in three parts
  front : List ℕ
  front = r.card.m ∷ r.card.n ∷ r.card.d ∷ r.heads

  tail : List ℕ
  tail = let c = r.counters in r.slot ∷ c.offered ∷ c.stored ∷ c.dropped ∷ c.departed ∷ []

  in_parts : record_list r ≡ front ++ (r.counts ++ tail)
  unfolding record_list front tail
  in_parts = append_assoc front r.counts tail

  front_long : length front ≡ 1027
  unfolding front
  front_long = omega (arith, h.heads_long)

  heads_back : heads_in (record_list r) ≡ r.heads
  unfolding front
  heads_back = ap heads_in in_parts ∙ take_at r.heads (r.counts ++ tail) 1024 h.heads_long

  counts_back : counts_in (record_list r) ≡ r.counts
  counts_back =
      ap counts_in in_parts ∙ ap (take 1024) (drop_at front (r.counts ++ tail) 1027 front_long) ∙ take_at r.counts tail 1024 h.counts_long

  both_long : length (front ++ r.counts) ≡ 2051
  both_long = length-append front r.counts ∙ (omega (arith, front_long, h.counts_long))

  tail_back : (k : ℕ) → at (record_list r) (2051 + k) ≡ at tail k
  unfolding record_list front tail
  tail_back k = ap (λ (n : ℕ). at (record_list r) (n + k)) (sym both_long) ∙ get_or-append-add (front ++ r.counts) tail k 0

  pub there_and_back : record_in (record_list r) ≡ r
  unfolding record_in record_list tail
  there_and_back = rw (heads_back, counts_back, tail_back 0, tail_back 1, tail_back 2, tail_back 3, tail_back 4)

  pub held_back : record_holds (record_list r) ≡ true
  unfolding record_holds holdable
  held_back =
      and_true (ap holdable heads_back ∙ at_every 1024 _ (λ k l. lt-ltb _ _ (h.heads_fit k)))
      (ap holdable counts_back ∙ at_every 1024 _ (λ k l. lt-ltb _ _ (h.counts_fit k)))

  -- one slot on the list of a record is document 01's slot on that record
  module _ (hold : ℕ) (outputs arriving cells stamps report : List ℕ)
      (l : slot_long (length (record_list r)) (length outputs) (length arriving) (length report) ≡ true) where
    pub slot_is :
        let was = slotted (record_list r) cells stamps report in
        let s = slot (record { kept = r; cells = cells; stamps = stamps }) hold (arrivals_in outputs arriving) in
        slot_lists hold outputs arriving was ≡ outcome s.refusal (record { lent = lent_of s.state; report = report_list s.report }) was
    unfolding slot_lists
    slot_is = rw (l, held_back, there_and_back)
