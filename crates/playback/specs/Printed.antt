-- Document 01, "The replay program": what the replay prints, as bytes. This file is what a reader must believe. Assumes nothing.
use Rattle.std.specs.Prelude.{List, [], ◌++◌, ℕ, zero, suc, replicate}
use Rattle.masks.specs.Paper.{sum}
use Rattle.card.specs.declared.Card.{Card}
use Rattle.matches.specs.Paper.{at}
use Rattle.slot.specs.Paper.{State, Stepped, room, queues, fresh, slot}
use Rattle.slotlog.specs.Paper.{Checked, check, read}
use Rattle.lines.specs.Paper.{slot_line, last_line, refusal_line}
use Rattle.playback.specs.Paper.{replay_refusal}

-- the card as it stands after some slots, and the lines that they have printed
pub record Played : Type 0 where
  pub state : State
  pub text : List ℕ

-- slot k of a log
abbrev pub step : List ℕ → ℕ → State → Stepped
step log k s = let given = (read log k).slot in slot s given.hold given.arrivals

-- "Each slot prints .." one line: the first n slots, in order
unfoldable pub played : List ℕ → State → ℕ → Played
played log s zero = record { state = s; text = [] }
played log s (suc k) =
    let p = played log s k in
    let done = step log k p.state in
    record { state = done.state; text = p.text ++ slot_line p.state.kept.slot done.report }

-- "on a fresh card", with lists of M·N·D places
abbrev pub begun : Card → State
begun c = let places = replicate (room c) 0 in (fresh c places places).state

abbrev pub card_of : Checked → Card
card_of c = record { m = c.m; n = c.n; d = c.d }

-- "Last comes `T` with .. waiting"
abbrev pub ended : Played → List ℕ
ended p = let r = p.state.kept in p.text ++ last_line r.counters (sum queues (at r.counts))

-- of a log that is refused for this; 0: it is run. "A refused log prints only `R`, the refusal, and the record's number"
unfoldable pub text_after : List ℕ → (refusal : ℕ) → List ℕ
text_after log zero = let c = check log in ended (played log (begun (card_of c)) c.count)
text_after log (suc r) = refusal_line (suc r) (check log).fault.record_number

abbrev pub replay_text : List ℕ → List ℕ
replay_text log = text_after log (replay_refusal log)
