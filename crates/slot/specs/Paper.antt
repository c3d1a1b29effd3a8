-- Document 01, "The card" and "One slot, in order", with the refusals of fresh card and slot. This file is what a reader must believe. Assumes nothing.
-- One queue's steps are in `queue/specs/Paper`, the match in `matches/specs/Paper`. A list of numbers read past its end gives 0. `mid_of a n l` is the n
-- entries of l from place a on, and `put_mid a n l x` is l with x in their place.
use Rattle.std.specs.Prelude.{ℕ, zero, suc, ◌+◌, ◌*◌, ◌^◌, Bool, cond, ◌&&◌, List, length, take, replicate, ◌==◌, nat_lt, slice_set}
use borrow.Rule.Slice.PartMut.{mid_of, put_mid}
use Rattle.masks.specs.Paper.{every}
use Rattle.card.specs.declared.Card.{Card}
use Rattle.card.specs.declared.Arrivals.{Arrivals}
use Rattle.card.specs.declared.Counters.{Counters}
use Rattle.card.specs.Paper.{ports, none, index, next, one_stored, one_dropped, one_departed, output_at, cell_at, unless, card_fits, names_below, arrivals_fit}
use Rattle.queue.specs.Paper.{Ring, queue_fits, stored, sent, oldest, oldest_stamp, wait_of}
use Rattle.matches.specs.Paper.{at, tab, partner, table_match, Answer}
use Rattle.slot.specs.declared.Record.{Record}

-- THE CARD

-- "Both lists are exactly M·N·D long"
abbrev pub room : Card → ℕ
room c = c.m * c.n * c.d

-- a card as it stands: "The record keeps M, N, D, the head and count of each queue, the slot number and four counters", and the two lent lists
pub record State : Type 0 where
  pub kept : Record
  pub cells : List ℕ
  pub stamps : List ℕ

-- "Queue (i, j) is the row of places from (i·N + j)·D on in two lent lists": queue k with its stretch of both lists
unfoldable pub queue_at : State → ℕ → Ring
queue_at s k =
    let d = s.kept.card.d in
    record {
      head = at s.kept.heads k;
      count = at s.kept.counts k;
      cells = mid_of (k * d) d s.cells;
      stamps = mid_of (k * d) d s.stamps;
    }

-- the card with q for its queue k, and all else as it was
unfoldable pub with_queue : ℕ → Ring → State → State
with_queue k q s =
    let d = s.kept.card.d in
    record {
      kept = record {
        card = s.kept.card;
        heads = slice_set s.kept.heads k q.head;
        counts = slice_set s.kept.counts k q.count;
        slot = s.kept.slot;
        counters = s.kept.counters;
      };
      cells = put_mid (k * d) d s.cells q.cells;
      stamps = put_mid (k * d) d s.stamps q.stamps;
    }

-- "A fresh card clears both to 0, and its record has M, N, D and 0 in all else"

abbrev pub zeros : Counters
zeros = record { offered = 0; stored = 0; dropped = 0; departed = 0 }

abbrev pub queues : ℕ
queues = 1024

unfoldable pub blank : Card → Record
blank c = record { card = c; heads = replicate queues 0; counts = replicate queues 0; slot = 0; counters = zeros }

-- "Fresh card: 1, 2", of the two lists' lengths
unfoldable pub fresh_refusal : Card → (cells stamps : ℕ) → ℕ
fresh_refusal c cells stamps = unless (card_fits c.m c.n c.d) 1 (unless (cells == room c) 2 (unless (stamps == room c) 2 0))

pub record Made : Type 0 where
  pub refusal : ℕ
  pub state : State

-- "a refused fresh card is a record of zeros"; "Lent memory stays"
unfoldable pub made : ℕ → Card → (cells stamps : List ℕ) → Made
made zero c cells stamps =
    record { refusal = 0; state = record { kept = blank c; cells = replicate (length cells) 0; stamps = replicate (length stamps) 0 } }
made (suc k) c cells stamps =
    record { refusal = suc k; state = record { kept = blank (record { m = 0; n = 0; d = 0 }); cells = cells; stamps = stamps } }

unfoldable pub fresh : Card → (cells stamps : List ℕ) → Made
fresh c cells stamps = made (fresh_refusal c (length cells) (length stamps)) c cells stamps

-- WHAT A SLOT SAYS NO TO: "Slot: 7, 2, 3, 4"

-- 7: "M, N or D outside its limit, a head ≥ D, a count > D, a head or count at index M·N or above not 0 (of 1,024 each ..)"
unfoldable pub queues_fit : Record → Bool
queues_fit r = every queues (λ k. queue_fits (r.card.m * r.card.n) r.card.d k (at r.heads k) (at r.counts k))

unfoldable pub well_formed : Record → Bool
well_formed r = card_fits r.card.m r.card.n r.card.d && queues_fit r

-- 2: "a lent list has the wrong length"; 3: "a hold names an output ≥ N"; 4: `arrivals_fit`. Of the two lists' lengths
unfoldable pub slot_refusal : Record → (cells stamps hold : ℕ) → Arrivals → ℕ
slot_refusal r cells stamps hold a =
    let c = r.card in
    unless (well_formed r) 7 (
    unless (cells == room c) 2 (
    unless (stamps == room c) 2 (
    unless (names_below c.n hold) 3 (
    unless (arrivals_fit c.m c.n a) 4 0))))

-- ONE SLOT, IN ORDER

-- the state with other counters
abbrev pub counting : (Counters → Counters) → State → State
counting f s =
    let r = s.kept in
    record {
      kept = record { card = r.card; heads = r.heads; counts = r.counts; slot = r.slot; counters = f r.counters };
      cells = s.cells;
      stamps = s.stamps;
    }

-- 1. "Each arrival, at most one per input, counts as offered. If its queue has D cells it is dropped and counted so .. Otherwise it is stored .."

-- while the arrivals are taken: the state, and the "mask of the inputs whose arrival was dropped", input i's bit being 2 ^ i
pub record Taking : Type 0 where
  pub state : State
  pub dropped : ℕ

unfoldable pub take_in : (i k cell : ℕ) → Taking → Taking
take_in i k cell t =
    let s = t.state in
    cond (nat_lt (at s.kept.counts k) s.kept.card.d)
    (record { state = counting one_stored (with_queue k (stored cell s.kept.slot (queue_at s k)) s); dropped = t.dropped })
    (record { state = counting one_dropped s; dropped = t.dropped + 2 ^ i })

-- input i's arrival: nothing where its output is none
unfoldable pub take_one : (i output cell : ℕ) → Taking → Taking
take_one i output cell t = cond (output == none) t (take_in i (index t.state.kept.card i output) cell t)

-- the arrivals of the first n inputs
unfoldable pub take_all : Arrivals → ℕ → Taking → Taking
take_all a zero t = t
take_all a (suc i) t = take_one i (output_at a i) (cell_at a i) (take_all a i t)

-- 2. "Requests and totals are taken after the arrivals .., then the match"
unfoldable pub match_of : Record → (hold : ℕ) → Answer
match_of r hold = let c = r.card in table_match c.m c.n (take (c.m * c.n) r.counts) hold

-- 3. "Each matched queue sends its oldest cell .. Reported are partner, cell and wait"

-- while the cells are sent: the state, and what each input reports
pub record Leaving : Type 0 where
  pub state : State
  pub cells : List ℕ
  pub waits : List ℕ

unfoldable pub send_from : (i k : ℕ) → Leaving → Leaving
send_from i k l =
    let s = l.state in
    let q = queue_at s k in
    record {
      state = counting one_departed (with_queue k (sent q) s);
      cells = slice_set l.cells i (oldest q);
      waits = slice_set l.waits i (wait_of s.kept.slot (oldest_stamp q));
    }

-- input i sends to its partner: "An unmatched input .. reports none, 0, 0"
unfoldable pub send_one : (i output : ℕ) → Leaving → Leaving
send_one i output l = cond (output == none) l (send_from i (index l.state.kept.card i output) l)

-- the first n inputs
unfoldable pub send_all : (partners : List ℕ) → ℕ → Leaving → Leaving
send_all p zero l = l
send_all p (suc i) l = send_one i (partner p i) (send_all p i l)

-- 4. "The slot number grows by 1, modulo the same"
abbrev pub next_slot : State → State
next_slot s =
    let r = s.kept in
    record {
      kept = record { card = r.card; heads = r.heads; counts = r.counts; slot = next r.slot; counters = r.counters };
      cells = s.cells;
      stamps = s.stamps;
    }

-- THE ANSWER: "The report also has size, weight and a mask of the inputs whose arrival was dropped"

pub record Report : Type 0 where
  pub partners : List ℕ
  pub cells : List ℕ
  pub waits : List ℕ
  pub pairs : ℕ
  pub weighs : ℕ
  pub dropped : ℕ

-- "a report with nothing sent and 0 in every other field"
unfoldable pub silent : Report
silent =
    record { partners = tab ports (λ i. none); cells = tab ports (λ i. 0); waits = tab ports (λ i. 0); pairs = 0; weighs = 0; dropped = 0 }

pub record Stepped : Type 0 where
  pub refusal : ℕ
  pub state : State
  pub report : Report

-- the states that the steps go through
abbrev pub begun : State → Taking
begun s = record { state = s; dropped = 0 }

abbrev pub arrived : State → Arrivals → Taking
arrived s a = take_all a s.kept.card.m (begun s)

abbrev pub unsent : State → Leaving
unsent s = record { state = s; cells = tab ports (λ i. 0); waits = tab ports (λ i. 0) }

abbrev pub left : State → (partners : List ℕ) → Leaving
left s p = send_all p s.kept.card.m (unsent s)

unfoldable pub accepted : State → (hold : ℕ) → Arrivals → Stepped
accepted s hold a =
    let t = arrived s a in
    let found = match_of t.state.kept hold in
    let l = left t.state found.partners in
    record {
      refusal = 0;
      state = next_slot l.state;
      report = record {
        partners = found.partners;
        cells = l.cells;
        waits = l.waits;
        pairs = found.pairs;
        weighs = found.weighs;
        dropped = t.dropped;
      };
    }

-- "a refused slot returns the given record and a report with nothing sent"; "Lent memory stays"
unfoldable pub stepped : ℕ → State → (hold : ℕ) → Arrivals → Stepped
stepped zero s hold a = accepted s hold a
stepped (suc k) s hold a = record { refusal = suc k; state = s; report = silent }

unfoldable pub slot : State → (hold : ℕ) → Arrivals → Stepped
slot s hold a = stepped (slot_refusal s.kept (length s.cells) (length s.stamps) hold a) s hold a
