-- Document 01, "The slot log", with the refusals of its three functions. This file is what a reader must believe. Assumes nothing.
-- A log is a list of bytes, numbers below 256. A list read past its end gives 0.
use Rattle.std.specs.Prelude.{Bool, cond, ◌&&◌, List, [], ◌∷◌, ◌++◌, map, ℕ, zero, suc, ◌+◌, ◌*◌, ◌-◌, ◌/◌, ◌%◌, length, drop, leb, ltb, eqb}
use Rattle.masks.specs.Paper.{keep}
use Rattle.card.specs.declared.Arrivals.{Arrivals}
use Rattle.card.specs.Paper.{ports, none, out, output_at, cell_at, no_arrivals, unless, card_fits, names_below, arrivals_fit}
use Rattle.matches.specs.Paper.{at, tab}

-- NUMBERS: "All numbers are little endian"

-- the number in n bytes from place p on
unfoldable pub number : (n : ℕ) → List ℕ → (p : ℕ) → ℕ
number zero log p = 0
number (suc n) log p = at log p + 256 * number n log (suc p)

-- the n bytes of a number
unfoldable pub bytes : (n x : ℕ) → List ℕ
bytes zero x = []
bytes (suc n) x = x % 256 ∷ bytes n (x / 256)

-- A SLOT: a hold, and the arrivals of the slot

pub record Slot : Type 0 where
  pub hold : ℕ
  pub arrivals : Arrivals

-- the arrivals of M inputs: none with 0 from M on
unfoldable pub arrivals_of : (M : ℕ) → (outputs cells : ℕ → ℕ) → Arrivals
arrivals_of M outputs cells =
    record {
      outputs = map out (tab ports (λ i. cond (ltb i M) (outputs i) none));
      cells = tab ports (λ i. keep (ltb i M) (cells i));
    }

-- 3 before 4
unfoldable pub slot_refusal : (M N : ℕ) → Slot → ℕ
slot_refusal M N s = unless (names_below N s.hold) 3 (unless (arrivals_fit M N s.arrivals) 4 0)

-- THE LAYOUT: "Per slot: hold, 4 bytes; then for each of M inputs, output 2 bytes and cell 4 bytes"

abbrev pub record_length : ℕ → ℕ
record_length M = 4 + 6 * M

-- the record that starts at place p
unfoldable pub slot_at : (M : ℕ) → List ℕ → (p : ℕ) → Slot
slot_at M log p =
    record {
      hold = number 4 log p;
      arrivals = arrivals_of M (λ i. number 2 log (p + (4 + 6 * i))) (λ i. number 4 log (p + (6 + 6 * i)));
    }

-- "After the last record stands a 16-byte trailer: length back from the trailer to the first record (4), M (2), N (2), D (2), slot count (4), the bytes 4C 50"

abbrev pub trailer_length : ℕ
trailer_length = 16

-- "A log has at most 32,016 bytes, banner included"
abbrev pub longest : ℕ
longest = 32016

module _ (log : List ℕ) where
  -- where the trailer starts
  abbrev pub trailer_at : ℕ
  trailer_at = length log - trailer_length

  abbrev pub back_of : ℕ
  back_of = number 4 log trailer_at

  abbrev pub m_of : ℕ
  m_of = number 2 log (trailer_at + 4)

  abbrev pub n_of : ℕ
  n_of = number 2 log (trailer_at + 6)

  abbrev pub d_of : ℕ
  d_of = number 2 log (trailer_at + 8)

  abbrev pub count_of : ℕ
  count_of = number 4 log (trailer_at + 10)

  -- "Bytes before the first record are a banner and not read"
  abbrev pub first_at : ℕ
  first_at = trailer_at - back_of

  -- the slot numbered k, from 0
  abbrev pub slot_of : ℕ → Slot
  slot_of k = slot_at m_of log (first_at + k * record_length m_of)

  -- 8: "log under 16 bytes or over 32,016, or its last two bytes are not 4C 50"
  unfoldable pub ends_well : Bool
  ends_well = (leb trailer_length (length log) && leb (length log) longest) && (eqb (at log (trailer_at + 14)) 76 && eqb (at log (trailer_at + 15)) 80)

  -- 9: "back length is not count × (4 + 6M), or exceeds the bytes before the trailer", over whole numbers
  unfoldable pub back_fits : Bool
  back_fits = eqb back_of (count_of * record_length m_of) && leb back_of trailer_at

  -- "8, 1, 9": of the head matter, whatever the records hold
  unfoldable pub head_refusal : ℕ
  head_refusal = unless ends_well 8 (unless (card_fits m_of n_of d_of) 1 (unless back_fits 9 0))

-- THE WHOLE-LOG CHECK: "8, 1, 9, then records in order, 3 before 4 in each"

-- a refusal, and the record it lies in "counted from 1 and 0 where it lies in no record"
pub record Fault : Type 0 where
  pub refusal : ℕ
  pub record_number : ℕ

-- the first fault among the n records from k on
unfoldable pub first_fault : (n k : ℕ) → (ℕ → ℕ) → Fault
first_fault zero k refusal = record { refusal = 0; record_number = 0 }
first_fault (suc n) k refusal = elim (refusal k) [ zero ↦ first_fault n (suc k) refusal | suc r ↦ record { refusal = suc r; record_number = suc k } ]

unfoldable pub record_refusal : List ℕ → ℕ → ℕ
record_refusal log k = slot_refusal (m_of log) (n_of log) (slot_of log k)

unfoldable pub log_fault : List ℕ → Fault
log_fault log = elim (head_refusal log) [ zero ↦ first_fault (count_of log) 0 (record_refusal log) | suc r ↦ record { refusal = suc r; record_number = 0 } ]

-- "The whole-log check answers M, N, D, count and the place of the first record; refused, these are 0"
pub record Checked : Type 0 where
  pub fault : Fault
  pub m : ℕ
  pub n : ℕ
  pub d : ℕ
  pub count : ℕ
  pub first : ℕ

unfoldable pub check : List ℕ → Checked
check log =
    elim (log_fault log).refusal [
      | zero ↦ record { fault = log_fault log; m = m_of log; n = n_of log; d = d_of log; count = count_of log; first = first_at log }
      | suc r ↦ record { fault = log_fault log; m = 0; n = 0; d = 0; count = 0; first = 0 }
    ]

-- READING ONE SLOT: "8, 1, 9, 11, 3, 4 of that record"; "a refused read gives hold 0 and no arrivals"

unfoldable pub read_refusal : List ℕ → ℕ → ℕ
read_refusal log k = elim (head_refusal log) [ zero ↦ unless (ltb k (count_of log)) 11 (record_refusal log k) | suc r ↦ suc r ]

pub record Read : Type 0 where
  pub refusal : ℕ
  pub slot : Slot

unfoldable pub read : List ℕ → ℕ → Read
read log k =
    elim (read_refusal log k) [
      | zero ↦ record { refusal = 0; slot = slot_of log k }
      | suc r ↦ record { refusal = suc r; slot = record { hold = 0; arrivals = no_arrivals } }
    ]

-- THE WRITER: "takes M, N, D, a list of holds (one per slot), a list of outputs and one of cells (slots × M each)"

-- the bytes of f 0, f 1, .., f (n − 1), one after another
unfoldable pub joined : (n : ℕ) → (ℕ → List ℕ) → List ℕ
joined zero f = []
joined (suc n) f = f 0 ++ joined n (λ k. f (suc k))

-- one record, of M inputs
unfoldable pub slot_bytes : ℕ → Slot → List ℕ
slot_bytes M s = bytes 4 s.hold ++ joined M (λ i. bytes 2 (output_at s.arrivals i) ++ bytes 4 (cell_at s.arrivals i))

unfoldable pub trailer_bytes : (back M N D count : ℕ) → List ℕ
trailer_bytes back M N D count = bytes 4 back ++ bytes 2 M ++ bytes 2 N ++ bytes 2 D ++ bytes 4 count ++ 76 ∷ 80 ∷ []

-- the log of `count` slots; "our writer puts none" in front
unfoldable pub log_bytes : (M N D count : ℕ) → (ℕ → Slot) → List ℕ
log_bytes M N D count slots = joined count (λ k. slot_bytes M (slots k)) ++ trailer_bytes (count * record_length M) M N D count

module _ (M N D : ℕ) (holds outputs cells : List ℕ) where
  -- the slot numbered k that is to be written
  unfoldable pub given_slot : ℕ → Slot
  given_slot k = record { hold = at holds k; arrivals = arrivals_of M (λ i. at outputs (k * M + i)) (λ i. at cells (k * M + i)) }

  abbrev pub log_length : ℕ
  log_length = length holds * record_length M + trailer_length

  -- "1, 2, 8, then 3 and 4 by record, then 10"
  unfoldable pub write_refusal : (room : ℕ) → ℕ
  write_refusal room =
      unless (card_fits M N D) 1 (
      unless (eqb (length outputs) (length holds * M)) 2 (
      unless (eqb (length cells) (length holds * M)) 2 (
      unless (leb log_length longest) 8 (
      elim (first_fault (length holds) 0 (λ k. slot_refusal M N (given_slot k))).refusal [ zero ↦ unless (leb log_length room) 10 0 | suc r ↦ suc r ]))))

-- "A successful writer fills the first bytes, leaves the rest and answers the length; refused, 0"
pub record Written : Type 0 where
  pub refusal : ℕ
  pub length_written : ℕ
  pub buffer : List ℕ

unfoldable pub write : (M N D : ℕ) (holds outputs cells buffer : List ℕ) → Written
write M N D holds outputs cells buffer =
    elim (write_refusal M N D holds outputs cells (length buffer)) [
      | zero ↦
          (let log = log_bytes M N D (length holds) (given_slot M N D holds outputs cells) in
          record { refusal = 0; length_written = length log; buffer = log ++ drop (length log) buffer })
      | suc r ↦ record { refusal = suc r; length_written = 0; buffer = buffer }
    ]
