-- The whole-log check and the reading of one slot: one law for each way out of the code; and a log that passes the check is whole: its head matter
-- and each of its records are in order, and it is read at every slot. Assumes nothing.
use Rattle.std.specs.Prelude.{◌≡◌, ◌≢◌, List}
use Rattle.std.proofs.Math.Path.{refl, sym, ap}
use Rattle.std.proofs.Common.{◌∙◌, arith}
use Prim.Native.Nat.{ℕ, zero, suc, ◌≤◌, ◌<◌}
use borrow.Author.Tests.{lt-ltb, le-ltb}
use Rattle.card.specs.Paper.{no_arrivals}
use Rattle.slotlog.specs.Paper.{Fault, Checked, m_of, n_of, d_of, count_of, first_at, slot_of, head_refusal, first_fault, record_refusal, log_fault, check, read_refusal, read}
use Rattle.slotlog.specs.Faults.{no_fault, refusal_of, fault_none, none_fault}

module _ (log : List ℕ) where
  -- ---- the first fault

  pub log_head : (r : ℕ) → r ≡ head_refusal log → r ≢ 0 → record { refusal = r; record_number = 0 } ≡ log_fault log
  unfolding log_fault
  log_head zero e d = absurd (d refl)
  log_head (suc r) e d = rw (log_fault, sym e)

  pub log_records : head_refusal log ≡ 0 → log_fault log ≡ first_fault (count_of log) 0 (record_refusal log)
  unfolding log_fault
  log_records e = rw (log_fault, e)

  -- no fault: none in the head matter
  pub log_none : (log_fault log).refusal ≡ 0 → head_refusal log ≡ 0
  log_none e = go (head_refusal log) refl
    where
      go : (r : ℕ) → head_refusal log ≡ r → head_refusal log ≡ 0
      go zero q = q
      go (suc r) q = let z : ◌≡◌ {A = ℕ} (suc r) 0 = ap refusal_of (log_head (suc r) (sym q) (λ n. absurd (omega arith))) ∙ e in absurd (omega arith)

  -- ---- the answer of the check

  -- by the refusal r of its fault
  unfoldable answered : ℕ → Checked
  answered r =
      elim r [
        | zero ↦ record { fault = log_fault log; m = m_of log; n = n_of log; d = d_of log; count = count_of log; first = first_at log }
        | suc r ↦ record { fault = log_fault log; m = 0; n = 0; d = 0; count = 0; first = 0 }
      ]

  check_answered : check log ≡ answered (log_fault log).refusal
  unfolding check answered
  check_answered = refl

  answered_refused : (r : ℕ) → r ≢ 0 → answered r ≡ record { fault = log_fault log; m = 0; n = 0; d = 0; count = 0; first = 0 }
  unfolding answered
  answered_refused zero d = absurd (d refl)
  answered_refused (suc r) d = refl

  pub check_fault : (f : Fault) → f ≡ log_fault log → f.refusal ≢ 0 → record { fault = f; m = 0; n = 0; d = 0; count = 0; first = 0 } ≡ check log
  check_fault f e d =
      ap (λ (g : Fault). record { fault = g; m = 0; n = 0; d = 0; count = 0; first = 0 }) e
      ∙ sym (answered_refused f.refusal d) ∙ ap (λ (g : Fault). answered g.refusal) e ∙ sym check_answered

  pub check_passed : (log_fault log).refusal ≡ 0 → check log ≡ record { fault = log_fault log; m = m_of log; n = n_of log; d = d_of log; count = count_of log; first = first_at log }
  unfolding answered
  check_passed e = check_answered ∙ ap answered e

  -- refused or not, the fault is the log's
  check_names : (check log).fault ≡ log_fault log
  unfolding answered
  check_names = ap (λ (r : Checked). r.fault) check_answered ∙ go (log_fault log).refusal
    where
      go : (r : ℕ) → (answered r).fault ≡ log_fault log
      go zero = refl
      go (suc r) = refl

  -- ---- one read

  pub read_head : (k r : ℕ) → r ≡ head_refusal log → r ≢ 0 → r ≡ read_refusal log k
  unfolding read_refusal
  read_head k zero e d = absurd (d refl)
  read_head k (suc r) e d = rw (read_refusal, sym e)

  pub read_past : (k : ℕ) → head_refusal log ≡ 0 → count_of log ≤ k → 11 ≡ read_refusal log k
  unfolding read_refusal
  read_past k e l = rw (read_refusal, e, le-ltb k (count_of log) l)

  pub read_record : (k : ℕ) → head_refusal log ≡ 0 → k < count_of log → record_refusal log k ≡ read_refusal log k
  unfolding read_refusal
  read_record k e l = rw (read_refusal, e, lt-ltb k (count_of log) l)

  pub read_refused : (k r : ℕ) → r ≡ read_refusal log k → r ≢ 0 → record { refusal = r; slot = record { hold = 0; arrivals = no_arrivals } } ≡ read log k
  unfolding read
  read_refused k zero e d = absurd (d refl)
  read_refused k (suc r) e d = rw (read, sym e)

  pub read_taken : (k : ℕ) → read_refusal log k ≡ 0 → read log k ≡ record { refusal = 0; slot = slot_of log k }
  unfolding read
  read_taken k e = rw (read, e)

  -- ---- a whole log

  -- no refusal of the head matter, and none of any record
  pub record Whole : Type 0 where
    pub head : head_refusal log ≡ 0
    pub records : (k : ℕ) → k < count_of log → record_refusal log k ≡ 0

  pub passed_whole : (check log).fault.refusal ≡ 0 → Whole
  passed_whole e =
      let z : (log_fault log).refusal ≡ 0 = sym (ap refusal_of check_names) ∙ e in
      let h = log_none z in
      let f = sym (ap refusal_of (log_records h)) ∙ z in
      record { head = h; records = λ k l. fault_none (record_refusal log) (count_of log) 0 f k (omega arith) (omega arith) }

  pub whole_passes : Whole → check log ≡ record { fault = no_fault; m = m_of log; n = n_of log; d = d_of log; count = count_of log; first = first_at log }
  whole_passes w =
      let none : log_fault log ≡ no_fault = log_records w.head ∙ none_fault (record_refusal log) (count_of log) 0 (λ k _ l. w.records k (omega arith)) in
      check_passed (ap refusal_of none)
      ∙ ap (λ (f : Fault). record { fault = f; m = m_of log; n = n_of log; d = d_of log; count = count_of log; first = first_at log }) none

  -- each slot below the count is read as it stands
  pub whole_reads : Whole → (k : ℕ) → k < count_of log → read log k ≡ record { refusal = 0; slot = slot_of log k }
  whole_reads w k l = read_taken k (sym (read_record k w.head l) ∙ w.records k l)
