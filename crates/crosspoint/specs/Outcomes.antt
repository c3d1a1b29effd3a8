-- The outcome of a call, refused or done, and the lists of each function as one value. Assumes nothing.
use Rattle.std.specs.Prelude.{List, ℕ, Result, Ok, Err}
use Rattle.card.specs.Paper.{refusal_number}
use Rattle.card.specs.declared.Refusal.{Refusal}
use Rattle.slotlog.specs.declared.Fault.{Fault}
use Rattle.crosspoint.specs.Paper.{Outcome, halves, Matched, Weights, Lent, Slotted, ReadLists}

-- ---- the lists of each function, as its contract names them

abbrev pub after : {A : Type 0} → ℕ → A → Outcome A
after answer lists = record { answer = answer; lists = lists }

abbrev pub matched : (partners totals : List ℕ) → Matched
matched partners totals = record { partners = partners; totals = totals }

abbrev pub weights : (inputs outputs : List ℕ) → Weights
weights inputs outputs = record { inputs = inputs; outputs = outputs }

abbrev pub lent : (kept cells stamps : List ℕ) → Lent
lent kept cells stamps = record { kept = kept; cells = cells; stamps = stamps }

abbrev pub slotted : (kept cells stamps report : List ℕ) → Slotted
slotted kept cells stamps report = record { lent = lent kept cells stamps; report = report }

abbrev pub read_into : (hold outputs cells : List ℕ) → ReadLists
read_into hold outputs cells = record { hold = hold; outputs = outputs; cells = cells }

-- ---- two answers as C has them

-- "refusal in the low half, record number in the high half"
abbrev pub checked_number : {T : Type 0} → Result T Fault → ℕ
checked_number (Ok x) = 0
checked_number (Err f) = halves (refusal_number f.refusal) f.«record»

-- "refusal in the low half, length written in the high half"
abbrev pub written_number : Result ℕ Refusal → ℕ
written_number (Ok n) = halves 0 n
written_number (Err r) = halves (refusal_number r) 0
