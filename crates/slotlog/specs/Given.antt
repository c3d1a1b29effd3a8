-- What the writer is given: its lists slot by slot, a record straight from them, and the log. Assumes nothing.
use Rattle.std.specs.Prelude.{◌≡◌, ℕ, ◌+◌, ◌*◌, ◌≤◌, ◌<◌, length, drop}
use Rattle.std.proofs.Common.{sym, ap, ap₂, ◌∙◌, arith}
use mathlib.Core.List.{List, ◌++◌}
use Rattle.card.specs.Limits.{Sizes}
use Rattle.card.specs.Paper.{ports}
use Rattle.matches.specs.Paper.{at}
use Rattle.slotlog.specs.Paper.{bytes, joined, slot_refusal, record_length, longest, slot_bytes, trailer_bytes, log_bytes, given_slot, log_length}
use Rattle.slotlog.specs.Layout.{length_records, length_log}
use Rattle.slotlog.specs.Put.{Put, put_on, put_front}
use Rattle.slotlog.specs.Joined.{joined_cong}
use Rattle.slotlog.specs.Arrived.{output_of, cell_of}
use Rattle.slotlog.specs.Records.{arrival_bytes, bytes_in, bytes_of_record}

-- sizes within their limits, M outputs and M cells for each hold, and no more slots than a log has
pub record Lists (M N D : ℕ) (holds outputs cells : List ℕ) : Type 0 where
  pub sizes : Sizes M N D
  pub outputs_full : length outputs ≡ length holds * M
  pub cells_full : length cells ≡ length holds * M
  pub short : log_length M N D holds outputs cells ≤ longest

-- no refusal applies to these arguments and to so much room
pub record Accepted (M N D : ℕ) (holds outputs cells : List ℕ) (room : ℕ) : Type 0 where
  pub lists : Lists M N D holds outputs cells
  pub each : (k : ℕ) → k < length holds → slot_refusal M N (given_slot M N D holds outputs cells k) ≡ 0
  pub fits : log_length M N D holds outputs cells ≤ room

-- ---- the log

-- c is the buffer b with the log at its front, whose length is r
pub record Filled (log b c : List ℕ) (r : ℕ) : Type 0 where
  pub is : c ≡ log ++ drop (length log) b
  pub long : r ≡ length log

module _ (M N D : ℕ) (holds outputs cells : List ℕ) where
  -- all records
  abbrev pub records_bytes : List ℕ
  records_bytes = joined (length holds) (λ k. slot_bytes M (given_slot M N D holds outputs cells k))

  -- the log of these arguments
  abbrev pub given_log : List ℕ
  given_log = log_bytes M N D (length holds) (given_slot M N D holds outputs cells)

  -- all records, and the trailer behind them
  pub filled : {b c d : List ℕ} → log_length M N D holds outputs cells ≤ length b → Put b 0 records_bytes c
      → Put c (length holds * record_length M) (trailer_bytes (length holds * record_length M) M N D (length holds)) d → Filled given_log b d (log_length M N D holds outputs cells)
  unfolding log_bytes
  filled h f g =
      let slots = given_slot M N D holds outputs cells in
      let long = length_log M N D (length holds) slots in
      record {
        is = put_front (put_on f g (length_records M N D (length holds) slots) (omega arith)) (omega (arith, long, h));
        long = omega (arith, long);
      }

-- the record of slot k, straight from the lists: its hold, with its M outputs and M cells
module _ (M N D : ℕ) (holds outputs cells : List ℕ) (k : ℕ) where
  pub record_given : (outs cs : List ℕ) → M ≤ ports → length outs ≡ M → ((i : ℕ) → i < M → at outs i ≡ at outputs (k * M + i)) → ((i : ℕ) → i < M → at cs i ≡ at cells (k * M + i))
      → bytes_of_record (at holds k) outs cs ≡ slot_bytes M (given_slot M N D holds outputs cells k)
  unfolding slot_bytes given_slot
  record_given outs cs few long o c =
      ap (λ (l : List ℕ). bytes 4 (at holds k) ++ l)
      (ap (λ (n : ℕ). joined n (bytes_in outs cs)) long
      ∙ joined_cong M _ _ (λ i l. ap₂ arrival_bytes (o i l ∙ sym (output_of M _ _ i l few)) (c i l ∙ sym (cell_of M _ _ i l few))))
