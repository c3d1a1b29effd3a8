-- The answers of the whole-log check, of reading one slot and of the writer, as document 01's. Assumes nothing.
use Rattle.std.specs.Prelude.{◌≡◌, List, ℕ, ◌≤◌, ◌<◌, length, Result, Ok, Err}
use Rattle.std.proofs.Common.{sym, ap, ap₂, ◌∙◌, arith}
use Rattle.card.specs.Paper.{refusal_number, no_arrivals}
use Rattle.card.specs.declared.Refusal.{Refusal}
use Rattle.card.specs.declared.Refusal.TheVariants.{Slot}
use Rattle.card.specs.Limits.{refused}
use Rattle.slotlog.specs.Paper.{slot_of, slot_refusal, head_refusal, first_fault, log_fault, check, read_refusal, read, write_refusal, write}
use Rattle.slotlog.specs.Paper as paper
use Rattle.slotlog.specs.Faults.{no_fault, refusal_of}
use Rattle.slotlog.specs.Head.{Known}
use Rattle.slotlog.specs.Reading.{fault_from, known_refusal, known_faults}
use Rattle.slotlog.specs.Checking.{log_head, log_records, check_fault, check_passed, read_head, read_past, read_record, read_refused, read_taken}
use Rattle.slotlog.specs.Slots.{slot_from}
use Rattle.slotlog.specs.Given.{Filled, given_log}
use Rattle.slotlog.specs.Writing.{write_refused, write_taken}
use Rattle.slotlog.specs.declared.Checked.{Checked}
use Rattle.slotlog.specs.declared.Fault.{Fault}
use Rattle.slotlog.specs.declared.Slot as code

abbrev pub checked_of : Result Checked Fault → paper.Checked
checked_of (Ok c) = record { fault = no_fault; m = c.card.m; n = c.card.n; d = c.card.d; count = c.count; first = c.first }
checked_of (Err f) = record { fault = fault_from f; m = 0; n = 0; d = 0; count = 0; first = 0 }

abbrev pub read_of : Result code.Slot Refusal → paper.Read
read_of (Ok s) = record { refusal = 0; slot = slot_from s }
read_of (Err r) = record { refusal = refusal_number r; slot = record { hold = 0; arrivals = no_arrivals } }

-- with the buffer as it is afterwards
abbrev pub written_of : Result ℕ Refusal → List ℕ → paper.Written
written_of (Ok n) buffer = record { refusal = 0; length_written = n; buffer = buffer }
written_of (Err r) buffer = record { refusal = refusal_number r; length_written = 0; buffer = buffer }

-- a refusal of the head matter
abbrev pub in_no_record : Refusal → Fault
in_no_record r = record { refusal = r; «record» = 0 }

-- ---- one law for each way out of the check

module _ (log : List ℕ) where
  pub check_head : (r : Refusal) → refusal_number r ≡ head_refusal log → checked_of (Err (in_no_record r)) ≡ check log
  check_head r e = check_fault log (fault_from (in_no_record r)) (log_head log (refusal_number r) e (refused r)) (refused r)

  module _ {M N D count first : ℕ} (h : Known log M N D count first) where
    faults_are : first_fault count 0 (λ k. slot_refusal M N (slot_of log k)) ≡ log_fault log
    faults_are = known_faults h ∙ sym (log_records log h.head)

    pub check_record : (f : Fault) → fault_from f ≡ first_fault count 0 (λ k. slot_refusal M N (slot_of log k)) → checked_of (Err f) ≡ check log
    check_record f e = check_fault log (fault_from f) (e ∙ faults_are) (refused f.refusal)

    pub check_good : no_fault ≡ first_fault count 0 (λ k. slot_refusal M N (slot_of log k)) → record { fault = no_fault; m = M; n = N; d = D; count = count; first = first } ≡ check log
    check_good e =
        let none = e ∙ faults_are in
        let z : (log_fault log).refusal ≡ 0 = sym (ap refusal_of none) in
        rw (none, h.m, h.n, h.d, h.slots, h.start) (sym (check_passed log z))

-- ---- and of one read

module _ (log : List ℕ) (k : ℕ) where
  pub unread_head : (r : Refusal) → refusal_number r ≡ head_refusal log → read_of (Err r) ≡ read log k
  unread_head r e = read_refused log k (refusal_number r) (read_head log k (refusal_number r) e (refused r)) (refused r)

  module _ {M N D count first : ℕ} (h : Known log M N D count first) where
    pub unread_past : count ≤ k → read_of (Err Slot) ≡ read log k
    unread_past l = read_refused log k 11 (read_past log k h.head (omega (arith, h.slots, l))) (λ z. absurd (omega arith))

    refusal_is : (s : code.Slot) → slot_from s ≡ slot_of log k → k < count → slot_refusal M N (slot_from s) ≡ read_refusal log k
    refusal_is s e l = known_refusal h k (slot_from s) e ∙ read_record log k h.head (omega (arith, h.slots, l))

    pub unread_record : (s : code.Slot) (r : Refusal) → slot_from s ≡ slot_of log k → k < count → refusal_number r ≡ slot_refusal M N (slot_from s) → read_of (Err r) ≡ read log k
    unread_record s r e l f = read_refused log k (refusal_number r) (f ∙ refusal_is s e l) (refused r)

    pub read_good : (s : code.Slot) → slot_from s ≡ slot_of log k → k < count → 0 ≡ slot_refusal M N (slot_from s) → read_of (Ok s) ≡ read log k
    read_good s e l f = ap (λ (t : paper.Slot). record { refusal = 0; slot = t }) e ∙ sym (read_taken log k (sym (f ∙ refusal_is s e l)))

-- ---- and of the writer

module _ (M N D : ℕ) (holds outputs cells buffer : List ℕ) where
  pub unwritten : (r : Refusal) → refusal_number r ≡ write_refusal M N D holds outputs cells (length buffer) → written_of (Err r) buffer ≡ write M N D holds outputs cells buffer
  unwritten r e = write_refused M N D holds outputs cells buffer (refusal_number r) e (refused r)

  pub write_filled : {c : List ℕ} {r : ℕ} → write_refusal M N D holds outputs cells (length buffer) ≡ 0 → Filled (given_log M N D holds outputs cells) buffer c r
      → record { refusal = 0; length_written = r; buffer = c } ≡ write M N D holds outputs cells buffer
  write_filled e w = ap₂ (λ (n : ℕ) (l : List ℕ). record { refusal = 0; length_written = n; buffer = l }) w.long w.is ∙ sym (write_taken M N D holds outputs cells buffer e)
