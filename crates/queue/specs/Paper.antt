-- Document 01, "The card" and "One slot, in order", of one queue. This file is what a reader must believe. Assumes nothing.
-- `ltb`, `leb` and `eqb` are the tests <, ≤ and = on numbers.
use Rattle.std.specs.Prelude.{ℕ, zero, suc, ◌+◌, ◌-◌, ◌%◌, ◌^◌, Bool, cond, ◌&&◌, Option, Some, None, List, [], ◌∷◌, length, ◌==◌, nat_le, nat_lt, slice_index, slice_set}
use Rattle.card.specs.Paper.{depth, within}
use Rattle.queue.specs.declared.Queue.{Queue}
use Rattle.queue.specs.declared.Sent.{Sent}

-- "its D places are handed on as that stretch of the lent memory": a queue, with its stretch of both lists. D is the stretch's length
pub record Ring : Type 0 where
  pub head : ℕ
  pub count : ℕ
  pub cells : List ℕ
  pub stamps : List ℕ

abbrev pub ring_of : Queue → List ℕ → List ℕ → Ring
ring_of q cells stamps = record { head = q.head; count = q.count; cells = cells; stamps = stamps }

abbrev pub D : Ring → ℕ
D q = length q.cells

-- the D places of both lists, D 1 to 64, a head below D, a count of at most D
unfoldable pub stands : (head count places others : ℕ) → Bool
stands head count places others = (within depth places && places == others) && (nat_lt head places && nat_le count places)

abbrev pub standing : Ring → Bool
standing q = stands q.head q.count (length q.cells) (length q.stamps)

-- what refusal 7 asks of queue k of the 1,024, of which a card has `used`: "a head ≥ D, a count > D, a head or count at index M·N or above not 0"
abbrev pub queue_fits : (used d k head count : ℕ) → Bool
queue_fits used d k head count = cond (nat_lt k used) (nat_lt head d && nat_le count d) (head == 0 && count == 0)

-- "stored at place (head + count) mod D with the slot number as stamp"
abbrev pub behind : Ring → ℕ
behind q = (q.head + q.count) % D q

abbrev pub stored : (cell slot : ℕ) → Ring → Ring
stored cell slot q =
    record {
      head = q.head;
      count = q.count + 1;
      cells = slice_set q.cells (behind q) cell;
      stamps = slice_set q.stamps (behind q) slot;
    }

-- "If its queue has D cells it is dropped"
unfoldable pub store : (cell slot : ℕ) → Ring → Ring
store cell slot q = cond (standing q && nat_lt q.count (D q)) (stored cell slot q) q

-- "the wait is the slot number less the stamp, modulo 4,294,967,296"
unfoldable pub wait_of : (slot stamp : ℕ) → ℕ
wait_of slot stamp = (slot + 2 ^ 32 - stamp) % 2 ^ 32

-- "Each matched queue sends its oldest cell"
abbrev pub oldest : Ring → ℕ
oldest q = slice_index q.cells q.head

abbrev pub oldest_stamp : Ring → ℕ
oldest_stamp q = slice_index q.stamps q.head

-- "its place is set to 0 in both lists, head becomes (head + 1) mod D, and an emptied queue's head is not reset"
abbrev pub sent : Ring → Ring
sent q =
    record {
      head = (q.head + 1) % D q;
      count = q.count - 1;
      cells = slice_set q.cells q.head 0;
      stamps = slice_set q.stamps q.head 0;
    }

-- what was sent, and what is left
pub record Sending : Type 0 where
  pub ring : Ring
  pub cell : ℕ
  pub wait : ℕ

abbrev pub sent_of : Option Sent → Queue → List ℕ → List ℕ → Sending
sent_of None q cells stamps = record { ring = ring_of q cells stamps; cell = 0; wait = 0 }
sent_of (Some r) q cells stamps = record { ring = ring_of q cells stamps; cell = r.cell; wait = r.wait }

-- an empty queue sends nothing
unfoldable pub send : (slot : ℕ) → Ring → Sending
send slot q =
    cond (standing q && nat_lt 0 q.count)
    (record { ring = sent q; cell = oldest q; wait = wait_of slot (oldest_stamp q) })
    (record { ring = q; cell = 0; wait = 0 })

-- WHAT WAITS, the oldest first: n entries of a list of D places from place p on, round the ring
unfoldable pub round : (n p : ℕ) → List ℕ → List ℕ
round zero p l = []
round (suc n) p l = slice_index l (p % length l) ∷ round n (suc p) l

-- of q's cells, or of its stamps
abbrev pub in_order : Ring → List ℕ → List ℕ
in_order q l = round q.count q.head l
