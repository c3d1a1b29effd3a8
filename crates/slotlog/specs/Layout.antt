-- The layout of a log: how long it is, and where its records and its trailer stand. Assumes nothing.
use Rattle.std.specs.Prelude.{◌≡◌, List, ◌++◌, ℕ, ◌+◌, ◌*◌, ◌<◌, length}
use Rattle.std.proofs.Common.{ap}
use Rattle.std.proofs.Math.Path.{subst}
use native.Mathlib.Omega.{arith}
use Rattle.std.proofs.Math.ListN.{length-append}
use Rattle.slotlog.specs.Paper.{Slot, record_length, trailer_length, joined, slot_bytes, trailer_bytes, log_bytes}
use Rattle.slotlog.specs.Parts.{Stands, stands_whole, stands_left, stands_right}
use Rattle.slotlog.specs.Joined.{length_joined, joined_cong, stands_joined}
use Rattle.slotlog.specs.Records.{length_slot}
use Rattle.slotlog.specs.Trailer.{length_trailer}

module _ (M N D count : ℕ) (slots : ℕ → Slot) where
  pub length_records : length (joined count (λ k. slot_bytes M (slots k))) ≡ count * record_length M
  length_records = length_joined count (record_length M) (λ k. slot_bytes M (slots k)) (λ k. length_slot M (slots k))

  pub length_log : length (log_bytes M N D count slots) ≡ count * record_length M + trailer_length
  unfolding log_bytes
  length_log =
      let trailer = trailer_bytes (count * record_length M) M N D count in
      omega (arith, length-append (joined count (λ k. slot_bytes M (slots k))) trailer, length_records, length_trailer (count * record_length M) M N D count)

  pub stands_slot : (k : ℕ) → k < count → Stands (slot_bytes M (slots k)) (log_bytes M N D count slots) (k * record_length M)
  unfolding log_bytes
  stands_slot k l =
      stands_joined count (record_length M) (λ k. slot_bytes M (slots k)) (λ k. length_slot M (slots k))
      (stands_left (joined count (λ k. slot_bytes M (slots k))) (trailer_bytes (count * record_length M) M N D count) (stands_whole (log_bytes M N D count slots)))
      k (k * record_length M) l (omega arith)

  -- "After the last record stands a 16-byte trailer"
  pub stands_trailer : Stands (trailer_bytes (count * record_length M) M N D count) (log_bytes M N D count slots) (count * record_length M)
  unfolding log_bytes
  stands_trailer =
      let place : 0 + count * record_length M ≡ count * record_length M = omega arith in
      let trailer = trailer_bytes (count * record_length M) M N D count in
      subst (Stands trailer (log_bytes M N D count slots)) place
      (stands_right (joined count (λ k. slot_bytes M (slots k))) trailer (count * record_length M) length_records (stands_whole (log_bytes M N D count slots)))

-- the slots from `count` on do not count
pub log_cong : (M N D count : ℕ) (s t : ℕ → Slot) → ((k : ℕ) → k < count → s k ≡ t k) → log_bytes M N D count s ≡ log_bytes M N D count t
unfolding log_bytes
log_cong M N D count s t e =
    ap (λ (r : List ℕ). r ++ trailer_bytes (count * record_length M) M N D count)
    (joined_cong count (λ k. slot_bytes M (s k)) (λ k. slot_bytes M (t k)) (λ k l. ap (slot_bytes M) (e k l)))
