-- What the writer has taken in, as document 01's. Assumes nothing.
use Rattle.std.specs.Prelude.{◌≡◌, List, ℕ, ◌*◌, length, ◌≤◌, Ok, Err}
use Rattle.std.proofs.Common.{sym, leb-true}
use Rattle.card.specs.declared.Card.{Card}
use Rattle.card.specs.declared.Refusal.{Refusal}
use Rattle.card.specs.Paper.{refusal_number}
use Rattle.card.specs.Limits.{refused}
use Rattle.slotlog.specs.Refused.{unless_zero}
use Rattle.slotlog.specs.WriteRefusals.{are_lists, by_records, by_room}
use Rattle.slotlog.specs.Answers.{written_of, unwritten, write_filled}
use Rattle.slotlog.specs.Paper.{given_slot}
use Rattle.slotlog.specs.Paper as paper
use Rattle.slotlog.specs.Given as given
use Rattle.slotlog.specs.WriteRefusals as refusals
use Rattle.slotlog.specs.declared.writing.Given.{Given}

module _ (g : Given) where
  -- the slot numbered k
  abbrev pub slot_of : ℕ → paper.Slot
  slot_of = given_slot g.card.m g.card.n g.card.d g.holds.now g.outputs.now g.cells.now

  -- refusals 3 and 4, and refusal 10
  abbrev pub records_refusal : ℕ
  records_refusal = refusals.records_refusal g.card.m g.card.n g.card.d g.holds.now g.outputs.now g.cells.now

  abbrev pub room_refusal : (room : ℕ) → ℕ
  room_refusal = refusals.room_refusal g.card.m (length g.holds.now)

  -- the length of the records, the bytes of the trailer, and the log with its length
  abbrev pub records_length : ℕ
  records_length = length g.holds.now * paper.record_length g.card.m

  abbrev pub trailer_of : List ℕ
  trailer_of = paper.trailer_bytes records_length g.card.m g.card.n g.card.d (length g.holds.now)

  abbrev pub log_of : List ℕ
  log_of = given.given_log g.card.m g.card.n g.card.d g.holds.now g.outputs.now g.cells.now

  abbrev pub log_length : ℕ
  log_length = paper.log_length g.card.m g.card.n g.card.d g.holds.now g.outputs.now g.cells.now

  -- the answer of the writer
  abbrev pub write_of : List ℕ → paper.Written
  write_of = paper.write g.card.m g.card.n g.card.d g.holds.now g.outputs.now g.cells.now

  -- which is that of the arguments
  pub write_as : (card : Card) (holds outputs cells buffer : List ℕ) → (g.card ≡ card) × (g.holds.now ≡ holds) × (g.outputs.now ≡ outputs) × (g.cells.now ≡ cells)
      → write_of buffer ≡ paper.write card.m card.n card.d holds outputs cells buffer
  write_as card holds outputs cells buffer (c, h, o, l) = go c h o l
    where
      go : {c : Card} {h o l : List ℕ} → c ≡ card → h ≡ holds → o ≡ outputs → l ≡ cells → paper.write c.m c.n c.d h o l buffer ≡ paper.write card.m card.n card.d holds outputs cells buffer
      go e f g k = rw (e, f, g, k)

  -- ---- one law for each way out of the writer

  sizes_pass : 0 ≡ refusals.size_refusal g.card.m g.card.n g.card.d (length g.holds.now) (length g.outputs.now) (length g.cells.now)
  sizes_pass = are_lists g.card.m g.card.n g.card.d g.holds.now g.outputs.now g.cells.now g.lists

  pub unwritten_records : (buffer : List ℕ) (r : Refusal) → refusal_number r ≡ records_refusal → written_of (Err r) buffer ≡ write_of buffer
  unwritten_records buffer r e =
      unwritten g.card.m g.card.n g.card.d g.holds.now g.outputs.now g.cells.now buffer r
      (by_records g.card.m g.card.n g.card.d g.holds.now g.outputs.now g.cells.now (length buffer) (refusal_number r) sizes_pass e (refused r))

  pub unwritten_room : (buffer : List ℕ) (r : Refusal) → 0 ≡ records_refusal → refusal_number r ≡ room_refusal (length buffer) → written_of (Err r) buffer ≡ write_of buffer
  unwritten_room buffer r z e =
      unwritten g.card.m g.card.n g.card.d g.holds.now g.outputs.now g.cells.now buffer r
      (by_room g.card.m g.card.n g.card.d g.holds.now g.outputs.now g.cells.now (length buffer) (refusal_number r) sizes_pass z e)

  pub written_good : (buffer : List ℕ) {c : List ℕ} {n : ℕ} → 0 ≡ records_refusal → 0 ≡ room_refusal (length buffer) → given.Filled log_of buffer c n → written_of (Ok n) c ≡ write_of buffer
  written_good buffer z e w =
      write_filled g.card.m g.card.n g.card.d g.holds.now g.outputs.now g.cells.now buffer
      (sym (by_room g.card.m g.card.n g.card.d g.holds.now g.outputs.now g.cells.now (length buffer) 0 sizes_pass z e)) w

-- there is room where refusal 10 is not given
pub room_is : (g : Given) (room : ℕ) → 0 ≡ room_refusal g room → log_length g ≤ room
unfolding refusals.room_refusal
room_is g room e = leb-true _ _ (unless_zero _ 9 0 (sym e)).0
