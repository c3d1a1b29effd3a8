-- What the functions that read a log hand to each other, as document 01's. Assumes nothing.
use Rattle.std.specs.Prelude.{◌≡◌, List, ℕ, ◌+◌, ◌*◌, ◌≤◌, ◌<◌, length, Result, Ok, Err}
use Rattle.std.proofs.Common.{arith, ap}
use Rattle.std.specs.Result.{MatchResult, IsErrAnd}
use Rattle.std.proofs.lemmas.Result.{err_from_is_err_and}
use Rattle.card.specs.Paper.{ports, refusal_number, number_of}
use Rattle.card.specs.declared.Refusal.{Refusal}
use Rattle.slotlog.specs.Paper.{record_length, trailer_length, longest, slot_at, slot_of, slot_refusal, record_refusal, m_of, n_of, count_of, first_at, first_fault}
use Rattle.slotlog.specs.Paper as paper
use Rattle.slotlog.specs.Head.{Head, head_is, record_inside, Known}
use Rattle.slotlog.specs.Faults.{no_fault}
use Rattle.slotlog.specs.declared.Fault.{Fault}

-- a fault, and what a look for one answers
abbrev pub fault_from : Fault → paper.Fault
fault_from f = record { refusal = refusal_number f.refusal; record_number = f.«record» }

abbrev pub fault_of : {T : Type 0} → Result T Fault → paper.Fault
fault_of (Ok x) = no_fault
fault_of (Err f) = fault_from f

-- its refusal alone
pub fault_number : {T : Type 0} (a : Result T Fault) (b : Result T Refusal) (P : Fault → Refusal → Type 0) → ((f : Fault) (r : Refusal) → P f r → r ≡ f.refusal)
    → MatchResult a (λ x. b ≡ Ok x) (λ f. IsErrAnd b (P f)) → number_of b ≡ (fault_of a).refusal
fault_number (Ok x) b P h e = rw e
fault_number (Err f) b P h e = let p = err_from_is_err_and b e in rw (p.1) (ap refusal_number (h f p.0 p.2))

module _ {log : List ℕ} {M N D count first : ℕ} (h : Known log M N D count first) where
  -- the record numbered k, and its refusal
  pub known_slot : (k : ℕ) → slot_at M log (first + k * record_length M) ≡ slot_of log k
  known_slot k = go h.m h.start
    where
      go : {m f : ℕ} → m ≡ m_of log → f ≡ first_at log → slot_at m log (f + k * record_length m) ≡ slot_of log k
      go e f = rw (e, f)

  pub known_refusal : (k : ℕ) (s : paper.Slot) → s ≡ slot_of log k → slot_refusal M N s ≡ record_refusal log k
  unfolding record_refusal
  known_refusal k s q = go h.m h.n
    where
      go : {m n : ℕ} → m ≡ m_of log → n ≡ n_of log → slot_refusal m n s ≡ slot_refusal (m_of log) (n_of log) (slot_of log k)
      go e f = rw (e, f, q)

  -- the first fault of all records
  pub known_faults : first_fault count 0 (λ k. slot_refusal M N (slot_of log k)) ≡ first_fault (count_of log) 0 (record_refusal log)
  unfolding record_refusal
  known_faults = rw (h.m, h.n, h.slots)

  -- the record numbered k lies in front of the trailer
  pub known_few : M ≤ ports
  known_few = omega (arith, (head_is log h.head).sizes.ports.ins.high, h.m)

  pub known_short : length log ≤ longest
  known_short = (head_is log h.head).sized.short

  pub known_inside : (k : ℕ) → k < count → (first + k * record_length M) + record_length M ≤ length log
  known_inside k l = go (head_is log h.head) h.m h.start
    where
      go : Head log → {m f : ℕ} → m ≡ m_of log → f ≡ first_at log → (f + k * record_length m) + record_length m ≤ length log
      go o e f = rw (e, f) (omega (arith, o.sized.long, record_inside log k o (omega (arith, h.slots, l))))
