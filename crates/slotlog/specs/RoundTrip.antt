-- The theorems of the slot log: what was written passes the check (write_then_check) and is read back (write_then_read); a log without a banner that
-- passes, read slot by slot and written again, gives the same bytes (read_then_write); a log that passes is read at every slot (checked_read). Assumes nothing.
use Rattle.std.specs.Prelude.{◌≡◌, refl, List, ◌++◌, ℕ, ◌+◌, ◌*◌, ◌/◌, ◌%◌, ◌^◌, ◌≤◌, ◌<◌, length, take, drop}
use Rattle.std.proofs.Math.Path.{sym, ap, ap₂}
use Rattle.std.proofs.Common.{◌∙◌, subst, arith}
use Rattle.std.proofs.Math.Seq.{take-append_seam}
use Rattle.std.proofs.Math.Arith.{digits_lt, digits_div, digits_mod}
use Rattle.card.specs.declared.Arrivals.{Arrivals}
use Rattle.card.specs.Paper.{output_at, cell_at}
use Rattle.matches.specs.Paper.{at, tab}
use Rattle.matches.proofs.Lists.{length_tab, get_or_tab}
use Rattle.slotlog.specs.Paper.{Slot, slot_refusal, record_length, trailer_length, m_of, n_of, d_of, count_of, slot_of, Checked, check, Read, read, log_bytes, given_slot, Written, write}
use Rattle.slotlog.specs.Numbers.{Bytes}
use Rattle.slotlog.specs.Arrived.{output_of, cell_of, arrivals_cong}
use Rattle.slotlog.specs.Slots.{Writable}
use Rattle.slotlog.specs.Layout.{log_cong}
use Rattle.slotlog.specs.Checking.{passed_whole, whole_passes, whole_reads}
use Rattle.slotlog.specs.Given.{given_log}
use Rattle.slotlog.specs.Writing.{accepted_is, is_accepted, write_taken, write_none}
use Rattle.slotlog.specs.Sound.{Sound, written_check, written_read, Plain, plain_long, plain_sound, log_again}

-- ---- written, then read

-- numbers of 32 bits
pub record Words (l : List ℕ) : Type 0 where
  pub small : (i : ℕ) → at l i < 2 ^ 32

module _ (M N D : ℕ) (holds outputs cells : List ℕ) (holds-fit : Words holds) (cells_fit : Words cells) (buffer : List ℕ) (accepted : (write M N D holds outputs cells buffer).refusal ≡ 0) where
  given_sound : Sound M N D (length holds) (given_slot M N D holds outputs cells)
  unfolding given_slot
  given_sound =
      let a = accepted_is M N D holds outputs cells (length buffer) (write_none M N D holds outputs cells buffer accepted) in
      record {
        sizes = a.lists.sizes;
        short = a.lists.short;
        each = λ k l. record {
          outputs = λ i. at outputs (k * M + i);
          cells = λ i. at cells (k * M + i);
          arrivals = refl;
          hold_fits = holds-fit.small k;
          cells_fit = λ i _. cells_fit.small (k * M + i);
          accepted = a.each k l;
        };
      }

  -- "A successful writer fills the first bytes, leaves the rest and answers the length": these bytes are the log
  in_buffer : take (write M N D holds outputs cells buffer).length_written (write M N D holds outputs cells buffer).buffer ≡ given_log M N D holds outputs cells
  in_buffer =
      let log = given_log M N D holds outputs cells in
      ap (λ (w : Written). take w.length_written w.buffer) (write_taken M N D holds outputs cells buffer (write_none M N D holds outputs cells buffer accepted))
      ∙ take-append_seam log (drop (length log) buffer)

  -- "The whole-log check answers M, N, D, count and the place of the first record": those that the writer was given
  pub write_then_check : check (take (write M N D holds outputs cells buffer).length_written (write M N D holds outputs cells buffer).buffer)
      ≡ record { fault = record { refusal = 0; record_number = 0 }; m = M; n = N; d = D; count = length holds; first = 0 }
  write_then_check = ap check in_buffer ∙ written_check M N D (length holds) (given_slot M N D holds outputs cells) given_sound

  -- reading one slot gives the hold, the outputs and the cells that the writer was given for it
  pub write_then_read : (k : ℕ) → k < length holds
      → read (take (write M N D holds outputs cells buffer).length_written (write M N D holds outputs cells buffer).buffer) k
      ≡ record { refusal = 0; slot = given_slot M N D holds outputs cells k }
  write_then_read k l = ap (λ (log : List ℕ). read log k) in_buffer ∙ written_read M N D (length holds) (given_slot M N D holds outputs cells) given_sound k l

-- ---- slots handed to the writer as its three lists: "a list of holds (one per slot), a list of outputs and one of cells (slots × M each)"

abbrev pub holds_of : (count : ℕ) → (ℕ → Slot) → List ℕ
holds_of count slots = tab count (λ k. (slots k).hold)

abbrev pub outputs_of : (M count : ℕ) → (ℕ → Slot) → List ℕ
outputs_of M count slots = tab (count * M) (λ q. output_at (slots (q / M)).arrivals (q % M))

abbrev pub cells_of : (M count : ℕ) → (ℕ → Slot) → List ℕ
cells_of M count slots = tab (count * M) (λ q. cell_at (slots (q / M)).arrivals (q % M))

-- entry i of row k of a table
row_at : (M count : ℕ) (f : ℕ → ℕ → ℕ) (k i : ℕ) → k < count → i < M → at (tab (count * M) (λ q. f (q / M) (q % M))) (k * M + i) ≡ f k i
row_at M count f k i lk li = get_or_tab (count * M) _ (k * M + i) 0 (digits_lt lk li) ∙ ap₂ f (digits_div k li) (digits_mod k li)

module _ (M N D count : ℕ) (slots : ℕ → Slot) (ok : Sound M N D count slots) where
  given_slots : (k : ℕ) → k < count → given_slot M N D (holds_of count slots) (outputs_of M count slots) (cells_of M count slots) k ≡ slots k
  unfolding given_slot
  given_slots k l =
      let w = ok.each k l in
      let most = ok.sizes.ports.ins.high in
      ap₂ (λ (h : ℕ) (a : Arrivals). record { hold = h; arrivals = a })
      (get_or_tab count _ k 0 l)
      (arrivals_cong M _ w.outputs _ w.cells
      (λ i li. row_at M count (λ k i. output_at (slots k).arrivals i) k i l li ∙ ap (λ (a : Arrivals). output_at a i) w.arrivals ∙ output_of M w.outputs w.cells i li most)
      (λ i li. row_at M count (λ k i. cell_at (slots k).arrivals i) k i l li ∙ ap (λ (a : Arrivals). cell_at a i) w.arrivals ∙ cell_of M w.outputs w.cells i li most)
      ∙ sym w.arrivals)

  -- they are written as their log
  write_slots : (buffer : List ℕ) → count * record_length M + trailer_length ≤ length buffer
      → write M N D (holds_of count slots) (outputs_of M count slots) (cells_of M count slots) buffer
      ≡ record { refusal = 0; length_written = length (log_bytes M N D count slots); buffer = log_bytes M N D count slots ++ drop (length (log_bytes M N D count slots)) buffer }
  write_slots buffer room =
      let long : length (holds_of count slots) ≡ count = length_tab count _ in
      let records = ap (λ (n : ℕ). n * record_length M) long in
      let entries = ap (λ (n : ℕ). n * M) long in
      write_taken M N D (holds_of count slots) (outputs_of M count slots) (cells_of M count slots) buffer
      (is_accepted M N D (holds_of count slots) (outputs_of M count slots) (cells_of M count slots) (length buffer) (record {
        lists = record {
          sizes = ok.sizes;
          outputs_full = length_tab (count * M) _ ∙ sym entries;
          cells_full = length_tab (count * M) _ ∙ sym entries;
          short = omega (arith, records, ok.short);
        };
        each = λ k l. let q : k < count = omega (arith, long) in ap (slot_refusal M N) (given_slots k q) ∙ (ok.each k q).accepted;
        fits = omega (arith, records, room);
      }))
      ∙ ap (λ (log : List ℕ). record { refusal = 0; length_written = length log; buffer = log ++ drop (length log) buffer })
      (ap (λ (n : ℕ). log_bytes M N D n (given_slot M N D (holds_of count slots) (outputs_of M count slots) (cells_of M count slots))) long
      ∙ log_cong M N D count _ slots given_slots)

-- ---- read, then written

-- the slots of a plain log, handed to the writer, give its bytes
write_again : (log : List ℕ) → Plain log → (slots : ℕ → Slot) → ((k : ℕ) → k < count_of log → slots k ≡ slot_of log k) → (buffer : List ℕ) → length log ≤ length buffer
    → write (m_of log) (n_of log) (d_of log) (holds_of (count_of log) slots) (outputs_of (m_of log) (count_of log) slots) (cells_of (m_of log) (count_of log) slots) buffer
    ≡ record { refusal = 0; length_written = length log; buffer = log ++ drop (length log) buffer }
write_again log ok slots same buffer room =
    let s = plain_sound log ok in
    let sound : Sound (m_of log) (n_of log) (d_of log) (count_of log) slots = record {
      sizes = s.sizes;
      short = s.short;
      each = λ k l. subst (Writable (m_of log) (n_of log)) (sym (same k l)) (s.each k l);
    } in
    write_slots (m_of log) (n_of log) (d_of log) (count_of log) slots sound buffer (omega (arith, plain_long log ok, room))
    ∙ ap (λ (log : List ℕ). record { refusal = 0; length_written = length log; buffer = log ++ drop (length log) buffer })
    (log_cong (m_of log) (n_of log) (d_of log) (count_of log) slots (slot_of log) same ∙ log_again log ok)

-- "A log without a banner that passes the whole check, read slot by slot and written again, gives the same bytes"
pub read_then_write : (log buffer : List ℕ) → Bytes log → (check log).fault.refusal ≡ 0 → (check log).first ≡ 0 → length log ≤ length buffer
    → write (check log).m (check log).n (check log).d
    (holds_of (check log).count (λ k. (read log k).slot))
    (outputs_of (check log).m (check log).count (λ k. (read log k).slot))
    (cells_of (check log).m (check log).count (λ k. (read log k).slot))
    buffer
    ≡ record { refusal = 0; length_written = length log; buffer = log ++ drop (length log) buffer }
read_then_write log buffer small passed first room =
    let w = passed_whole log passed in
    let answer = whole_passes log w in
    let plain : Plain log = record { small = small; whole = w; no_banner = ap (λ (c : Checked). c.first) (sym answer) ∙ first } in
    let slots : ℕ → Slot = λ k. (read log k).slot in
    ap (λ (c : Checked). write c.m c.n c.d (holds_of c.count slots) (outputs_of c.m c.count slots) (cells_of c.m c.count slots) buffer) answer
    ∙ write_again log plain slots (λ k l. ap (λ (r : Read). r.slot) (whole_reads log w k l)) buffer room

-- ---- one slot

-- "Reading one slot: 8, 1, 9, 11, 3, 4 of that record": a log that passes the whole check is read at every slot below its count
pub checked_read : (log : List ℕ) → (check log).fault.refusal ≡ 0 → (k : ℕ) → k < count_of log → read log k ≡ record { refusal = 0; slot = slot_of log k }
checked_read log e = whole_reads log (passed_whole log e)
