-- One record: how long it is; a slot that was written is read back, and a record that was read is written as it stood. Assumes nothing.
use Rattle.std.specs.Prelude.{◌≡◌, refl, ℕ, ◌+◌, ◌*◌, ◌^◌, ◌≤◌, ◌<◌, length, drop}
use Rattle.std.proofs.Math.Path.{sym, ap, ap₂}
use Rattle.std.proofs.Common.{◌∙◌, length-append}
use mathlib.Core.List.{List, ◌++◌}
use native.Mathlib.Omega.{arith}
use Rattle.std.proofs.Math.ListN.{take}
use Rattle.card.specs.declared.Arrivals.{Arrivals}
use Rattle.card.specs.Paper.{ports, output_at, cell_at}
use Rattle.matches.specs.Paper.{at}
use Rattle.slotlog.specs.Paper.{number, bytes, Slot, record_length, slot_at, joined, slot_bytes}
use Rattle.slotlog.specs.Parts.{Stands, stands_left, stands_right, part_join}
use Rattle.slotlog.specs.Numbers.{Bytes, length_bytes, number_back, bytes_number}
use Rattle.slotlog.specs.Joined.{length_joined, stands_joined, joined_parts}
use Rattle.slotlog.specs.Arrived.{output_of, cell_of, arrivals_cong}
use Rattle.slotlog.specs.Slots.{Writable, outputs_small}

-- what an input has in a record
abbrev pub arrival_bytes : (output cell : ℕ) → List ℕ
arrival_bytes output cell = bytes 2 output ++ bytes 4 cell

pub length_arrival : (output cell : ℕ) → length (arrival_bytes output cell) ≡ 6
unfolding bytes
length_arrival output cell = refl

-- and in the record of a slot
abbrev pub bytes_at : Arrivals → ℕ → List ℕ
bytes_at a i = arrival_bytes (output_at a i) (cell_at a i)

pub length_at : (a : Arrivals) (i : ℕ) → length (bytes_at a i) ≡ 6
length_at a i = length_arrival (output_at a i) (cell_at a i)

-- what an input has, of an output and a cell that stand in two lists
abbrev pub bytes_in : (outputs cells : List ℕ) (i : ℕ) → List ℕ
bytes_in outputs cells i = arrival_bytes (at outputs i) (at cells i)

pub length_in : (outputs cells : List ℕ) (i : ℕ) → length (bytes_in outputs cells i) ≡ 6
length_in outputs cells i = length_arrival (at outputs i) (at cells i)

-- a record of a hold and what stands in two lists
abbrev pub bytes_of_record : (hold : ℕ) (outputs cells : List ℕ) → List ℕ
bytes_of_record hold outputs cells = bytes 4 hold ++ joined (length outputs) (bytes_in outputs cells)

-- "Per slot: hold, 4 bytes; then for each of M inputs, output 2 bytes and cell 4 bytes"
pub length_slot : (M : ℕ) (s : Slot) → length (slot_bytes M s) ≡ record_length M
unfolding slot_bytes
length_slot M s =
    omega (arith, length-append (bytes 4 s.hold) (joined M (bytes_at s.arrivals)), length_bytes 4 s.hold, length_joined M 6 (bytes_at s.arrivals) (length_at s.arrivals))

-- a slot that was written is read
module _ (M N : ℕ) (s : Slot) (ok : Writable M N s) (ins : M ≤ ports) (outs : N ≤ ports) {log : List ℕ} {p : ℕ} (here : Stands (slot_bytes M s) log p) where
  stands_arrival : (i : ℕ) → i < M → Stands (bytes_at s.arrivals i) log (p + (4 + 6 * i))
  unfolding slot_bytes
  stands_arrival i l =
      stands_joined M 6 (bytes_at s.arrivals) (length_at s.arrivals)
      (stands_right (bytes 4 s.hold) (joined M (bytes_at s.arrivals)) 4 (length_bytes 4 s.hold) here) i (p + (4 + 6 * i)) l (omega arith)

  hold_back : number 4 log p ≡ s.hold
  unfolding slot_bytes
  hold_back = number_back 4 s.hold ok.hold_fits (stands_left (bytes 4 s.hold) (joined M (bytes_at s.arrivals)) here)

  output_back : (i : ℕ) → i < M → number 2 log (p + (4 + 6 * i)) ≡ ok.outputs i
  output_back i l =
      number_back 2 (output_at s.arrivals i) (outputs_small M N s outs ok.accepted i (omega arith)) (stands_left (bytes 2 (output_at s.arrivals i)) (bytes 4 (cell_at s.arrivals i)) (stands_arrival i l))
      ∙ ap (λ (a : Arrivals). output_at a i) ok.arrivals ∙ output_of M ok.outputs ok.cells i l ins

  cell_back : (i : ℕ) → i < M → number 4 log (p + (6 + 6 * i)) ≡ ok.cells i
  cell_back i l =
      let same : cell_at s.arrivals i ≡ ok.cells i = ap (λ (a : Arrivals). cell_at a i) ok.arrivals ∙ cell_of M ok.outputs ok.cells i l ins in
      let place : p + (6 + 6 * i) ≡ p + (4 + 6 * i) + 2 = omega arith in
      let fits : cell_at s.arrivals i < 256 ^ 4 = omega (arith, same, ok.cells_fit i l) in
      ap (number 4 log) place
      ∙ number_back 4 (cell_at s.arrivals i) fits (stands_right (bytes 2 (output_at s.arrivals i)) (bytes 4 (cell_at s.arrivals i)) 2 (length_bytes 2 (output_at s.arrivals i)) (stands_arrival i l))
      ∙ same

  pub slot_back : slot_at M log p ≡ s
  unfolding slot_at
  slot_back =
      ap₂ (λ (h : ℕ) (a : Arrivals). record { hold = h; arrivals = a }) hold_back
      (arrivals_cong M _ ok.outputs _ ok.cells output_back cell_back ∙ sym ok.arrivals)

-- a record that was read is written as it stood
module _ (M : ℕ) (log : List ℕ) (p : ℕ) (small : Bytes log) (ins : M ≤ ports) (inside : p + record_length M ≤ length log) where
  arrival_again : (i : ℕ) → i < M → bytes_at (slot_at M log p).arrivals i ≡ take 6 (drop (p + 4 + i * 6) log)
  unfolding slot_at
  arrival_again i l =
      let out : p + (4 + 6 * i) ≡ p + 4 + i * 6 = omega arith in
      let cell : p + (6 + 6 * i) ≡ p + 4 + i * 6 + 2 = omega arith in
      ap₂ (λ (o c : ℕ). bytes 2 o ++ bytes 4 c)
      (output_of M _ _ i l ins ∙ ap (number 2 log) out)
      (cell_of M _ _ i l ins ∙ ap (number 4 log) cell)
      ∙ ap₂ ◌++◌ (bytes_number 2 log (p + 4 + i * 6) small (omega arith)) (bytes_number 4 log (p + 4 + i * 6 + 2) small (omega arith))
      ∙ part_join log (p + 4 + i * 6) 2 4

  pub slot_again : slot_bytes M (slot_at M log p) ≡ take (record_length M) (drop p log)
  unfolding slot_bytes slot_at
  slot_again =
      let long : 4 + M * 6 ≡ record_length M = omega arith in
      ap₂ ◌++◌ (bytes_number 4 log p small (omega arith)) (joined_parts M 6 (bytes_at (slot_at M log p).arrivals) log (p + 4) arrival_again)
      ∙ part_join log p 4 (M * 6)
      ∙ ap (λ (n : ℕ). take n (drop p log)) long
