-- The C interface: what each of its eight functions answers, and what every lent list holds afterwards. This file is what a reader must believe.
-- Assumes nothing. The functions themselves are document 01's: `matches/specs/Paper`, `slot/specs/Paper`, `slotlog/specs/Paper`. Here stand the layouts and
-- the two rules of the interface: a list of fixed length is tested first, and a refused call changes no list.
use Rattle.std.specs.Prelude.{Bool, ◌&&◌, List, [], ◌∷◌, ◌++◌, map, ℕ, zero, suc, ◌+◌, ◌*◌, ◌^◌, length, ltb, eqb}
use borrow.Rule.Slice.PartMut.{mid_of}
use Rattle.masks.specs.Paper.{every}
use Rattle.card.specs.declared.Card.{Card}
use Rattle.card.specs.declared.Arrivals.{Arrivals}
use Rattle.card.specs.Paper.{ports, out, unless}
use Rattle.search.specs.First.{numbers}
use Rattle.matches.specs.Paper as matches
use Rattle.matches.specs.Paper.{at, table_match, weight_match, rank_form}
use Rattle.slot.specs.declared.Record.{Record}
use Rattle.slot.specs.Paper as slots
use Rattle.slot.specs.Paper.{State, queues}
use Rattle.slotlog.specs.Paper as logs

-- THE RULES OF THE INTERFACE

-- what a call answers, and the lent lists that it may change, as they are afterwards
pub record Outcome (A : Type 0) : Type 0 where
  pub answer : ℕ
  pub lists : A

-- "A refused call changes nothing in any list, its answer lists among them"
unfoldable pub outcome : {A : Type 0} → (refusal : ℕ) → (done given : A) → Outcome A
outcome zero done given = record { answer = 0; lists = done }
outcome (suc k) done given = record { answer = suc k; lists = given }

-- "refusal in the low half, .. in the high half"
abbrev pub halves : (low high : ℕ) → ℕ
halves low high = low + high * 2 ^ 32

-- THE MATCHES: "partners: u16 *, len 32; totals: u32 *, len 2 (size, weight)"

pub record Matched : Type 0 where
  pub partners : List ℕ
  pub totals : List ℕ

-- an answer in its two lists, where a test of lengths and the match refuse nothing
unfoldable pub given : Bool → matches.Answer → Matched → Outcome Matched
given fixed a was = outcome (unless fixed 2 a.refusal) (record { partners = a.partners; totals = a.pairs ∷ a.weighs ∷ [] }) was

-- "Lists whose length is fixed here are tested first: another length is refusal 2, before all else". This test and those like it below are of lengths
unfoldable pub answer_long : (partners totals : ℕ) → Bool
answer_long partners totals = eqb partners ports && eqb totals 2

unfoldable pub match_table : (m n : ℕ) (counts : List ℕ) (hold : ℕ) → Matched → Outcome Matched
match_table m n counts hold was = given (answer_long (length was.partners) (length was.totals)) (table_match m n counts hold) was

unfoldable pub weights_long : (rows inputs outputs : ℕ) → Bool
weights_long rows inputs outputs = eqb rows ports && (eqb inputs ports && eqb outputs ports)

unfoldable pub match_weights : (m n : ℕ) (rows inputs outputs : List ℕ) → Matched → Outcome Matched
match_weights m n rows inputs outputs was =
    let fixed = weights_long (length rows) (length inputs) (length outputs) && answer_long (length was.partners) (length was.totals) in
    given fixed (weight_match m n rows inputs outputs) was

-- THE RANK FORM: "weights in, ranks out"

pub record Weights : Type 0 where
  pub inputs : List ℕ
  pub outputs : List ℕ

unfoldable pub rank_lists : (m n : ℕ) (rows : List ℕ) → Weights → Outcome Weights
rank_lists m n rows was =
    let f = rank_form m n rows was.inputs was.outputs in
    outcome (unless (weights_long (length rows) (length was.inputs) (length was.outputs)) 2 f.refusal) (record { inputs = f.inputs; outputs = f.outputs }) was

-- THE RECORD: "M, N, D at 0, 1, 2; the 1,024 heads from 3; the 1,024 counts from 1,027; slot number, offered, stored, dropped, departed at 2,051 to 2,055"

abbrev pub record_long : ℕ
record_long = 2056

unfoldable pub record_list : Record → List ℕ
record_list r =
    let c = r.counters in
    r.card.m ∷ r.card.n ∷ r.card.d ∷ r.heads ++ r.counts ++ r.slot ∷ c.offered ∷ c.stored ∷ c.dropped ∷ c.departed ∷ []

abbrev pub heads_in : List ℕ → List ℕ
heads_in l = mid_of 3 queues l

abbrev pub counts_in : List ℕ → List ℕ
counts_in l = mid_of 1027 queues l

unfoldable pub record_in : List ℕ → Record
record_in l =
    record {
      card = record { m = at l 0; n = at l 1; d = at l 2 };
      heads = heads_in l;
      counts = counts_in l;
      slot = at l 2051;
      counters = record { offered = at l 2052; stored = at l 2053; dropped = at l 2054; departed = at l 2055 };
    }

-- "A number there that no field of the record can hold is refusal 7": heads and counts have 16 bits, every other field has 32
unfoldable pub holdable : List ℕ → Bool
holdable l = every queues (λ k. ltb (at l k) 65536)

unfoldable pub record_holds : List ℕ → Bool
record_holds l = holdable (heads_in l) && holdable (counts_in l)

-- THE CARD: fresh, and one slot

pub record Lent : Type 0 where
  pub kept : List ℕ
  pub cells : List ℕ
  pub stamps : List ℕ

-- the record and the two lists of a card
abbrev pub lent_of : State → Lent
lent_of s = record { kept = record_list s.kept; cells = s.cells; stamps = s.stamps }

unfoldable pub fresh_lists : Card → Lent → Outcome Lent
fresh_lists c was =
    let f = slots.fresh c was.cells was.stamps in
    outcome (unless (eqb (length was.kept) record_long) 2 f.refusal) (lent_of f.state) was

-- "32 partners (65535 for none), 32 cells, 32 waits, size, weight, mask of dropped inputs"
abbrev pub report_long : ℕ
report_long = 99

unfoldable pub report_list : slots.Report → List ℕ
report_list r = r.partners ++ r.cells ++ r.waits ++ r.pairs ∷ r.weighs ∷ r.dropped ∷ []

pub record Slotted : Type 0 where
  pub lent : Lent
  pub report : List ℕ

abbrev pub arrivals_in : (outputs cells : List ℕ) → Arrivals
arrivals_in outputs cells = record { outputs = map out outputs; cells = cells }

unfoldable pub slot_long : (kept outputs arriving report : ℕ) → Bool
slot_long kept outputs arriving report = eqb kept record_long && (eqb outputs ports && (eqb arriving ports && eqb report report_long))

unfoldable pub slot_lists : (hold : ℕ) (outputs arriving : List ℕ) → Slotted → Outcome Slotted
slot_lists hold outputs arriving was =
    let l = was.lent in
    let s = slots.slot (record { kept = record_in l.kept; cells = l.cells; stamps = l.stamps }) hold (arrivals_in outputs arriving) in
    outcome
    (unless (slot_long (length l.kept) (length outputs) (length arriving) (length was.report)) 2 (unless (record_holds l.kept) 7 s.refusal))
    (record { lent = lent_of s.state; report = report_list s.report })
    was

-- THE LOG

-- "answer: u32 *, len 5 (M, N, D, count, place of the first record)"; "refusal in the low half, record number in the high half"
unfoldable pub check_lists : (log answer : List ℕ) → Outcome (List ℕ)
check_lists log answer =
    let c = logs.check log in
    let refusal = unless (eqb (length answer) 5) 2 c.fault.refusal in
    record {
      answer = halves refusal (unless (eqb (length answer) 5) 0 c.fault.record_number);
      lists = (outcome refusal (c.m ∷ c.n ∷ c.d ∷ c.count ∷ c.first ∷ []) answer).lists;
    }

-- "hold: u32 *, len 1; outputs: u16 *, len 32; cells: u32 *, len 32"
pub record ReadLists : Type 0 where
  pub hold : List ℕ
  pub outputs : List ℕ
  pub cells : List ℕ

unfoldable pub read_long : (hold outputs cells : ℕ) → Bool
read_long hold outputs cells = eqb hold 1 && (eqb outputs ports && eqb cells ports)

unfoldable pub read_lists : (log : List ℕ) (slot : ℕ) → ReadLists → Outcome ReadLists
read_lists log slot was =
    let r = logs.read log slot in
    outcome
    (unless (read_long (length was.hold) (length was.outputs) (length was.cells)) 2 r.refusal)
    (record { hold = r.slot.hold ∷ []; outputs = numbers r.slot.arrivals.outputs; cells = r.slot.arrivals.cells })
    was

-- "refusal in the low half, length written in the high half". No list of the writer has a fixed length
unfoldable pub write_lists : (m n d : ℕ) (holds outputs cells buffer : List ℕ) → Outcome (List ℕ)
write_lists m n d holds outputs cells buffer =
    let w = logs.write m n d holds outputs cells buffer in
    record { answer = halves w.refusal w.length_written; lists = w.buffer }
