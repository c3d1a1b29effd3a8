-- The answers of the fresh card and of the slot, and what the steps of a slot hand on, as document 01's. Assumes nothing.
use Rattle.std.specs.Prelude.{ℕ, List, Option, Some, None, Result, Ok, Err, slice_set}
use Rattle.card.specs.Paper.{refusal_number, number_of}
use Rattle.search.specs.First.{numbers}
use Rattle.slot.specs.declared.Record.{Record}
use Rattle.slot.specs.declared.Report.{Report}
use Rattle.card.specs.declared.Refusal.{Refusal}
use Rattle.slot.specs.declared.Stepped.{Stepped}
use Rattle.queue.specs.declared.Sent.{Sent}
use Rattle.slot.specs.Paper.{State, Taking, Leaving, blank, silent}
use Rattle.slot.specs.Paper as paper

abbrev pub state_of : Record → List ℕ → List ℕ → State
state_of r cells stamps = record { kept = r; cells = cells; stamps = stamps }

-- a refused fresh card is a record of zeros
abbrev pub made_of : Result Record Refusal → List ℕ → List ℕ → paper.Made
made_of (Ok r) cells stamps = record { refusal = 0; state = state_of r cells stamps }
made_of (Err e) cells stamps = record { refusal = refusal_number e; state = state_of (blank (record { m = 0; n = 0; d = 0 })) cells stamps }

abbrev pub report_of : Report → paper.Report
report_of r =
    record {
      partners = numbers r.partners;
      cells = r.cells;
      waits = r.waits;
      pairs = r.size;
      weighs = r.weight;
      dropped = r.dropped;
    }

-- a refused slot's report has nothing sent
abbrev pub reported : Result Report Refusal → paper.Report
reported (Ok r) = report_of r
reported (Err e) = silent

abbrev pub stepped_of : Stepped → List ℕ → List ℕ → paper.Stepped
stepped_of r cells stamps =
    record { refusal = number_of r.outcome; state = state_of r.record cells stamps; report = reported r.outcome }

-- the record and the report of an accepted slot
abbrev pub accepted_of : Record → Report → List ℕ → List ℕ → paper.Stepped
accepted_of r report cells stamps = record { refusal = 0; state = state_of r cells stamps; report = report_of report }

-- in the middle of a slot: the record, and the inputs whose arrival was dropped
abbrev pub taking_of : Record → (dropped : ℕ) → List ℕ → List ℕ → Taking
taking_of r dropped cells stamps = record { state = state_of r cells stamps; dropped = dropped }

-- the record, and the report so far
abbrev pub leaving_of : Record → Report → List ℕ → List ℕ → Leaving
leaving_of r report cells stamps = record { state = state_of r cells stamps; cells = report.cells; waits = report.waits }

-- the record, and what has been reported with what input i sent
abbrev pub sending_of : (i : ℕ) → Option Sent → Record → (cells stamps told waits : List ℕ) → Leaving
sending_of i None r cells stamps told waits = record { state = state_of r cells stamps; cells = told; waits = waits }
sending_of i (Some x) r cells stamps told waits =
    record { state = state_of r cells stamps; cells = slice_set told i x.cell; waits = slice_set waits i x.wait }
