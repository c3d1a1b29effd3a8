-- The invariant: the records passed have no fault, so the first is among the rest. Assumes nothing.
use Rattle.std.proofs.Common.{◌≡◌, ℕ, ◌-◌, ◌≤◌}
use Rattle.slotlog.specs.Paper.{Slot, slot_refusal, first_fault}
use Rattle.slotlog.specs.Slots.{GivesSlots}
use Rattle.slotlog.proofs.records.first_fault.Given as goal

abbrev pub invariant-loop-k : goal.invariant-loop-k
invariant-loop-k g l = record {
  passed : l.k ≤ l.count;
  rest : (f : ℕ → Slot) → GivesSlots (goal.F-post g l.slot) l.count f
      → first_fault l.count 0 (λ k. slot_refusal l.card.m l.card.n (f k)) ≡ first_fault (l.count - l.k) l.k (λ k. slot_refusal l.card.m l.card.n (f k));
}
