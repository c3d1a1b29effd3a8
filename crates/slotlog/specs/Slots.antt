-- One slot: the code's as document 01's, what an accepted one says of its outputs, and which slots a log can hold. Assumes nothing.
use Rattle.std.specs.Prelude.{◌≡◌, ◌⊎◌, true, false, ℕ, ◌^◌, ◌≤◌, ◌<◌, ltb, eqb}
use Rattle.std.proofs.Common.{inl, inr, arith, ltb-true, eqb-true}
use Rattle.masks.specs.Tests.{cases, and_both, every_at}
use Rattle.card.specs.Paper.{ports, none, output_at, cell_at, names_below, arrival_fits, fits_at, arrivals_fit}
use Rattle.slotlog.specs.Paper.{Slot, arrivals_of, slot_refusal}
use Rattle.slotlog.specs.Refused.{unless_zero}
use Rattle.slotlog.specs.declared.Slot as code

abbrev pub slot_from : code.Slot → Slot
slot_from s = record { hold = s.hold; arrivals = s.arrivals }

-- each answer to the numbers below n is the slot that f gives
abbrev pub GivesSlots : (ℕ → code.Slot → Type 0) → (n : ℕ) → (f : ℕ → Slot) → Type 0
GivesSlots answers n f = (k : ℕ) (s : code.Slot) → k < n → answers k s → slot_from s ≡ f k

-- "an output neither none nor < N" is refused, so an accepted one fits 2 bytes
output_small : (M N i output cell : ℕ) → N ≤ ports → arrival_fits M N i output cell ≡ true → output < 65536
output_small M N i output cell most e = go (cases (eqb output none))
  where
    go : (eqb output none ≡ true) ⊎ (eqb output none ≡ false) → output < 65536
    go (inl t) = omega (arith, eqb-true output none t)
    go (inr f) = omega (arith, ltb-true output N (and_both (ltb i M) (ltb output N) (rw f at e)).1)

pub outputs_small : (M N : ℕ) (s : Slot) → N ≤ ports → slot_refusal M N s ≡ 0 → (i : ℕ) → i < ports → output_at s.arrivals i < 65536
unfolding slot_refusal arrivals_fit
outputs_small M N s most e i l =
    let fit = (unless_zero (arrivals_fit M N s.arrivals) 3 0 (unless_zero (names_below N s.hold) 2 _ e).1).0 in
    output_small M N i (output_at s.arrivals i) (cell_at s.arrivals i) most (every_at ports (fits_at M N s.arrivals) fit i l)

-- a slot that can be written: accepted, the arrivals of M inputs, and each number within its bytes
pub record Writable (M N : ℕ) (s : Slot) : Type 0 where
  pub outputs : ℕ → ℕ
  pub cells : ℕ → ℕ
  pub arrivals : s.arrivals ≡ arrivals_of M outputs cells
  pub hold_fits : s.hold < 2 ^ 32
  pub cells_fit : (i : ℕ) → i < M → cells i < 2 ^ 32
  pub accepted : slot_refusal M N s ≡ 0
