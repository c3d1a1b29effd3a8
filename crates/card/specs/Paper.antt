-- Document 01, "The card", and the tests of "What is said no to" that matching, slot and log share. This file is what a reader must believe.
-- Assumes nothing. `leb`, `ltb` and `eqb` are the tests ≤, < and = on numbers.
use Rattle.std.specs.Prelude.{ℕ, ◌+◌, ◌*◌, ◌%◌, ◌^◌, Bool, true, false, cond, not, ◌&&◌, ◌||◌, replicate, ◌==◌, nat_le, nat_lt, slice_index, slice_index_or, Result, Ok, Err}
use Rattle.masks.specs.Paper.{has, every}
use Rattle.card.specs.declared.Card.{Card}
use Rattle.card.specs.declared.Counters.{Counters}
use Rattle.card.specs.declared.Out.{Out}
use Rattle.card.specs.declared.Arrivals.{Arrivals}
use Rattle.card.specs.declared.Refusal.{Refusal}
use Rattle.card.specs.declared.Refusal.TheVariants.{Size, Length, Hold, Arrival, Row, Weight, Record, Log, Back, Buffer, Slot}

-- THE LIMITS

-- "M inputs and N outputs, each 1 to 32"
abbrev pub ports : ℕ
ports = 32

-- "each queue holds D cells, 1 to 64"
abbrev pub depth : ℕ
depth = 64

-- "65535 in place of an output means 'none'"
abbrev pub none : ℕ
none = 65535

-- "queue (i, j) has index i·N + j"
abbrev pub index : Card → (i j : ℕ) → ℕ
index c i j = i * c.n + j

-- COUNTERS: "Counters run modulo 4,294,967,296"; the slot number grows by 1, "modulo the same"

abbrev pub next : ℕ → ℕ
next x = (x + 1) % 2 ^ 32

-- "Each arrival .. counts as offered", whether it is stored or dropped
abbrev pub one_stored : Counters → Counters
one_stored c = record { offered = next c.offered; stored = next c.stored; dropped = c.dropped; departed = c.departed }

abbrev pub one_dropped : Counters → Counters
one_dropped c = record { offered = next c.offered; stored = c.stored; dropped = next c.dropped; departed = c.departed }

abbrev pub one_departed : Counters → Counters
one_departed c = record { offered = c.offered; stored = c.stored; dropped = c.dropped; departed = next c.departed }

-- WHAT ARRIVES: "Arrivals go in as one value, 32 outputs and 32 cells, none with 0 where nothing arrives". Each list has 32 entries: no default is read

abbrev pub out : ℕ → Out
out j = record { 0 = j }

abbrev pub output_at : Arrivals → ℕ → ℕ
output_at a i = (slice_index_or a.outputs i (out 0)).0

abbrev pub cell_at : Arrivals → ℕ → ℕ
cell_at a i = slice_index a.cells i

unfoldable pub no_arrivals : Arrivals
no_arrivals = record { outputs = replicate ports (out none); cells = replicate ports 0 }

-- REFUSALS: "The first that applies, in this order, is given"

-- number where the test fails, and else what comes after it
abbrev pub unless : Bool → ℕ → ℕ → ℕ
unless true number next = next
unless false number next = number

-- x is 1 to most
abbrev pub within : ℕ → ℕ → Bool
within most x = nat_le 1 x && nat_le x most

-- 1: "M or N is not 1 to 32, or D (where asked) is not 1 to 64"
unfoldable pub ports_fit : ℕ → ℕ → Bool
ports_fit m n = within ports m && within ports n

unfoldable pub card_fits : ℕ → ℕ → ℕ → Bool
card_fits m n d = ports_fit m n && within depth d

-- 3: "a hold names an output ≥ N". The same test is the first half of 5: "a row has a bit ≥ N"
unfoldable pub names_below : ℕ → ℕ → Bool
names_below n mask = every ports (λ j. nat_lt j n || not (has mask j))

-- 4: "an arrival at an input ≥ M; an output neither none nor < N; none with a cell other than 0"
abbrev pub arrival_fits : (m n i output cell : ℕ) → Bool
arrival_fits m n i output cell = cond (output == none) (cell == 0) (nat_lt i m && nat_lt output n)

abbrev pub fits_at : ℕ → ℕ → Arrivals → ℕ → Bool
fits_at m n a i = arrival_fits m n i (output_at a i) (cell_at a i)

unfoldable pub arrivals_fit : ℕ → ℕ → Arrivals → Bool
arrivals_fit m n a = every ports (fits_at m n a)

-- Document 01's number of each refusal
abbrev pub refusal_number : Refusal → ℕ
refusal_number Size = 1
refusal_number Length = 2
refusal_number Hold = 3
refusal_number Arrival = 4
refusal_number Row = 5
refusal_number Weight = 6
refusal_number Record = 7
refusal_number Log = 8
refusal_number Back = 9
refusal_number Buffer = 10
refusal_number Slot = 11

-- the number of what a call answers; 0: accepted
abbrev pub number_of : {T : Type 0} → Result T Refusal → ℕ
number_of (Ok x) = 0
number_of (Err r) = refusal_number r
