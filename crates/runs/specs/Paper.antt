-- Document 01, "over any run from a fresh card": what a run is, and what is counted from its arrivals and reports. This file is what a reader must believe.
-- Assumes nothing.
use Rattle.std.specs.Prelude.{Bool, cond, not, ◌&&◌, List, [], ◌∷◌, ◌++◌, ℕ, ◌+◌, ◌*◌, eqb}
use Rattle.masks.specs.Paper.{bit, has, keep, sum}
use Rattle.card.specs.declared.Card.{Card}
use Rattle.card.specs.declared.Arrivals.{Arrivals}
use Rattle.card.specs.Paper.{ports, none, output_at, cell_at, index}
use Rattle.queue.specs.Paper.{wait_of, in_order}
use Rattle.matches.specs.Paper.{at, partner}
use Rattle.slot.specs.Paper.{State, Stepped, queue_at, fresh, slot}

-- A RUN: one call of the slot after another. "This presumes that record and lists come back to the next call unchanged; a refused call in between adds nothing"

pub record Call : Type 0 where
  pub hold : ℕ
  pub arrivals : Arrivals

abbrev pub answer : State → Call → Stepped
answer s c = slot s c.hold c.arrivals

-- a fresh card, in lists of any contents
abbrev pub start : Card → (cells stamps : List ℕ) → State
start c cells stamps = (fresh c cells stamps).state

-- the card after the calls
unfoldable pub after : State → List Call → State
after s [] = s
after s (c ∷ calls) = after (answer s c).state calls

-- COUNTED FROM ARRIVALS AND REPORTS: of one call c and its answer r

abbrev pub taken : Stepped → Bool
taken r = eqb r.refusal 0

abbrev pub arrives : Call → ℕ → Bool
arrives c i = not (eqb (output_at c.arrivals i) none)

-- input i's arrival was offered, and not dropped
abbrev pub keeps : Call → Stepped → ℕ → Bool
keeps c r i = arrives c i && not (has r.report.dropped i)

abbrev pub offered_in : Call → Stepped → ℕ
offered_in c r = keep (taken r) (sum ports (λ i. keep (arrives c i) 1))

abbrev pub stored_in : Call → Stepped → ℕ
stored_in c r = keep (taken r) (sum ports (λ i. keep (keeps c r i) 1))

abbrev pub dropped_in : Call → Stepped → ℕ
dropped_in c r = sum ports (λ i. bit r.report.dropped i)

abbrev pub departed_in : Call → Stepped → ℕ
departed_in c r = sum ports (λ i. keep (not (eqb (partner r.report.partners i) none)) 1)

-- a call that was accepted
abbrev pub accepted_in : Call → Stepped → ℕ
accepted_in c r = keep (taken r) 1

-- over the calls
unfoldable pub total : (Call → Stepped → ℕ) → State → List Call → ℕ
total f s [] = 0
total f s (c ∷ calls) = let r = answer s c in f c r + total f r.state calls

-- "waiting is the sum of queue lengths"
unfoldable pub waiting : State → ℕ
waiting s = sum (s.kept.card.m * s.kept.card.n) (λ k. at s.kept.counts k)

-- EACH QUEUE GIVES ITS CELLS IN THE ORDER IT STORED THEM: what queue (i, j) stored and what it sent, in order

-- a list of one or none
abbrev pub one : Bool → ℕ → List ℕ
one t x = cond t (x ∷ []) []

-- a call stored a cell in queue (i, j), or sent one from it
abbrev pub stores_at : (i j : ℕ) → Call → Stepped → Bool
stores_at i j c r = taken r && (eqb (output_at c.arrivals i) j && not (has r.report.dropped i))

abbrev pub sends_at : (i j : ℕ) → Stepped → Bool
sends_at i j r = eqb (partner r.report.partners i) j

-- the cell that it stored, and the slot number it was stored with
abbrev pub cell_in : (i j : ℕ) → State → Call → Stepped → List ℕ
cell_in i j s c r = one (stores_at i j c r) (cell_at c.arrivals i)

abbrev pub stamp_in : (i j : ℕ) → State → Call → Stepped → List ℕ
stamp_in i j s c r = one (stores_at i j c r) s.kept.slot

-- the cell that it sent, and the slot number that its reported wait leads back to
abbrev pub cell_out : (i j : ℕ) → State → Call → Stepped → List ℕ
cell_out i j s c r = one (sends_at i j r) (at r.report.cells i)

abbrev pub stamp_out : (i j : ℕ) → State → Call → Stepped → List ℕ
stamp_out i j s c r = one (sends_at i j r) (wait_of s.kept.slot (at r.report.waits i))

-- over the calls, in order
unfoldable pub history : (State → Call → Stepped → List ℕ) → State → List Call → List ℕ
history f s [] = []
history f s (c ∷ calls) = let r = answer s c in f s c r ++ history f r.state calls

-- the cells that wait in queue (i, j), the oldest first, and their stamps
abbrev pub cells_of : (i j : ℕ) → State → List ℕ
cells_of i j s = let q = queue_at s (index s.kept.card i j) in in_order q q.cells

abbrev pub stamps_of : (i j : ℕ) → State → List ℕ
stamps_of i j s = let q = queue_at s (index s.kept.card i j) in in_order q q.stamps
