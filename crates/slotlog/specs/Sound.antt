-- Slots that can be written: their log passes the whole check and is read back slot by slot. And a log without a banner that passes is the log of
-- its slots. Assumes nothing.
use Rattle.std.specs.Prelude.{◌≡◌, refl, ℕ, ◌+◌, ◌*◌, ◌≤◌, ◌<◌, length, drop}
use Rattle.std.proofs.Math.Path.{sym, ap, ap₂}
use Rattle.std.proofs.Common.{◌∙◌, subst, zero-add, le-mul_of_pos_right, arith}
use mathlib.Core.List.{List, ◌++◌}
use Rattle.std.proofs.Math.ListN.{take, take-append-drop, length-drop}
use Rattle.std.proofs.Math.Seq.{take_all}
use Rattle.card.specs.Limits.{Sizes}
use Rattle.slotlog.specs.Paper.{number, Slot, slot_refusal, record_length, trailer_length, longest, slot_at, trailer_at, m_of, n_of, d_of, count_of, first_at, slot_of, record_refusal, check, read, slot_bytes, trailer_bytes, log_bytes}
use Rattle.slotlog.specs.Numbers.{Bytes, number_lt}
use Rattle.slotlog.specs.Joined.{joined_parts}
use Rattle.slotlog.specs.Slots.{Writable}
use Rattle.slotlog.specs.Records.{slot_back, slot_again}
use Rattle.slotlog.specs.Trailer.{Trailer, trailer_back, trailer_again}
use Rattle.slotlog.specs.Layout.{length_log, stands_slot, stands_trailer}
use Rattle.slotlog.specs.Head.{head_is, is_head, record_inside}
use Rattle.slotlog.specs.Faults.{no_fault}
use Rattle.slotlog.specs.Checking.{Whole, whole_passes, whole_reads}

pub record Sound (M N D count : ℕ) (slots : ℕ → Slot) : Type 0 where
  pub sizes : Sizes M N D
  pub short : count * record_length M + trailer_length ≤ longest
  pub each : (k : ℕ) → k < count → Writable M N (slots k)

-- ---- written, then read

module _ (M N D count : ℕ) (slots : ℕ → Slot) (ok : Sound M N D count slots) where
  trailer_at_lem : trailer_at (log_bytes M N D count slots) ≡ count * record_length M
  trailer_at_lem = omega (arith, length_log M N D count slots)

  trailer_read : Trailer (count * record_length M) M N D count (log_bytes M N D count slots) (trailer_at (log_bytes M N D count slots))
  trailer_read =
      let s = ok.sizes in
      let long : 0 < record_length M = omega arith in
      subst (Trailer (count * record_length M) M N D count (log_bytes M N D count slots)) (sym trailer_at_lem)
      (trailer_back (count * record_length M) M N D count (omega (arith, ok.short)) (omega (arith, s.ports.ins.high)) (omega (arith, s.ports.outs.high)) (omega (arith, s.deep.high))
      (omega (arith, ok.short, le-mul_of_pos_right count long)) (stands_trailer M N D count slots))

  m_written : m_of (log_bytes M N D count slots) ≡ M
  m_written = trailer_read.m_is

  n_written : n_of (log_bytes M N D count slots) ≡ N
  n_written = trailer_read.n_is

  d_written : d_of (log_bytes M N D count slots) ≡ D
  d_written = trailer_read.d_is

  count_written : count_of (log_bytes M N D count slots) ≡ count
  count_written = trailer_read.count_is

  -- "our writer puts none"
  no_banner : first_at (log_bytes M N D count slots) ≡ 0
  no_banner = omega (arith, trailer_at_lem, trailer_read.back_is)

  slot_written : (k : ℕ) → k < count → slot_of (log_bytes M N D count slots) k ≡ slots k
  slot_written k l =
      ap₂ (λ (m f : ℕ). slot_at m (log_bytes M N D count slots) (f + k * record_length m)) m_written no_banner
      ∙ ap (slot_at M (log_bytes M N D count slots)) (zero-add (k * record_length M))
      ∙ slot_back M N (slots k) (ok.each k l) ok.sizes.ports.ins.high ok.sizes.ports.outs.high (stands_slot M N D count slots k l)

  written_whole : Whole (log_bytes M N D count slots)
  unfolding record_refusal
  written_whole = record {
    head = is_head (log_bytes M N D count slots) (record {
      sized = record { long = omega (arith, length_log M N D count slots); short = omega (arith, length_log M N D count slots, ok.short) };
      mark = trailer_read.mark_is;
      end = trailer_read.end_is;
      sizes = rw (m_written, n_written, d_written) ok.sizes;
      back = trailer_read.back_is ∙ sym (ap₂ (λ (c m : ℕ). c * record_length m) count_written m_written);
      room = omega (arith, trailer_at_lem, trailer_read.back_is);
    });
    records = λ k l. let h : k < count = omega (arith, count_written) in rw (slot_written k h, m_written, n_written) (ok.each k h).accepted;
  }

  pub written_check : check (log_bytes M N D count slots) ≡ record { fault = no_fault; m = M; n = N; d = D; count = count; first = 0 }
  written_check = whole_passes (log_bytes M N D count slots) written_whole ∙ rw (m_written, n_written, d_written, count_written, no_banner)

  pub written_read : (k : ℕ) → k < count → read (log_bytes M N D count slots) k ≡ record { refusal = 0; slot = slots k }
  written_read k l =
      whole_reads (log_bytes M N D count slots) written_whole k (omega (arith, count_written))
      ∙ ap (λ (s : Slot). record { refusal = 0; slot = s }) (slot_written k l)

-- ---- read, then written

-- a log of bytes that is whole and has no banner
pub record Plain (log : List ℕ) : Type 0 where
  pub small : Bytes log
  pub whole : Whole log
  pub no_banner : first_at log ≡ 0

-- a record that was read can be written
slot_writable : (M N : ℕ) (log : List ℕ) (p : ℕ) → Bytes log → slot_refusal M N (slot_at M log p) ≡ 0 → Writable M N (slot_at M log p)
unfolding slot_at
slot_writable M N log p small e = record {
  outputs = λ i. number 2 log (p + (4 + 6 * i));
  cells = λ i. number 4 log (p + (6 + 6 * i));
  arrivals = refl;
  hold_fits = number_lt 4 log p small;
  cells_fit = λ i _. number_lt 4 log (p + (6 + 6 * i)) small;
  accepted = e;
}

module _ (log : List ℕ) (ok : Plain log) where
  -- "After the last record stands a 16-byte trailer"
  records_end : trailer_at log ≡ count_of log * record_length (m_of log)
  records_end = let h = head_is log ok.whole.head in omega (arith, h.room, h.back, ok.no_banner)

  pub plain_long : count_of log * record_length (m_of log) + trailer_length ≡ length log
  plain_long = omega (arith, records_end, (head_is log ok.whole.head).sized.long)

  pub plain_sound : Sound (m_of log) (n_of log) (d_of log) (count_of log) (slot_of log)
  unfolding record_refusal
  plain_sound = let h = head_is log ok.whole.head in record {
    sizes = h.sizes;
    short = omega (arith, plain_long, h.sized.short);
    each = λ k l. slot_writable (m_of log) (n_of log) log (first_at log + k * record_length (m_of log)) ok.small (ok.whole.records k l);
  }

  record_again : (k : ℕ) → k < count_of log → slot_bytes (m_of log) (slot_of log k) ≡ take (record_length (m_of log)) (drop (0 + k * record_length (m_of log)) log)
  record_again k l =
      let h = head_is log ok.whole.head in
      let place : first_at log + k * record_length (m_of log) ≡ 0 + k * record_length (m_of log) = omega (arith, ok.no_banner) in
      slot_again (m_of log) log (first_at log + k * record_length (m_of log)) ok.small h.sizes.ports.ins.high (omega (arith, record_inside log k h l))
      ∙ ap (λ (p : ℕ). take (record_length (m_of log)) (drop p log)) place

  -- "read slot by slot and written again, gives the same bytes"
  pub log_again : log_bytes (m_of log) (n_of log) (d_of log) (count_of log) (slot_of log) ≡ log
  unfolding log_bytes
  log_again =
      let h = head_is log ok.whole.head in
      ap₂ ◌++◌
      (joined_parts (count_of log) (record_length (m_of log)) (λ k. slot_bytes (m_of log) (slot_of log k)) log 0 record_again ∙ ap (λ (n : ℕ). take n log) (sym records_end))
      (ap (λ (b : ℕ). trailer_bytes b (m_of log) (n_of log) (d_of log) (count_of log)) (sym h.back)
      ∙ trailer_again log (trailer_at log) ok.small (omega (arith, h.sized.long)) h.mark h.end
      ∙ take_all trailer_length (drop (trailer_at log) log) (omega (arith, length-drop (trailer_at log) log, h.sized.long)))
      ∙ take-append-drop (trailer_at log) log
