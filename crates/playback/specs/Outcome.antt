-- What comes of a log: it runs, or it is refused. Assumes nothing.
use Rattle.std.specs.Prelude.{◌≡◌, List, ℕ, ◌≤◌}
use Rattle.card.specs.Paper.{refusal_number}
use Rattle.slot.specs.Paper.{room}
use Rattle.slotlog.specs.Paper.{check}
use Rattle.slotlog.specs.declared.Checked.{Checked}
use Rattle.slotlog.specs.declared.Fault.{Fault}
use Rattle.playback.specs.Paper.{room_of, replay_refusal}
use Rattle.playback.specs.Printed.{card_of}

-- the log is run: its card, how many slots it has, and how many places
pub record Runs (log : List ℕ) (c : Checked) (places : ℕ) : Type 0 where
  pub taken : replay_refusal log ≡ 0
  pub card : c.card ≡ card_of (check log)
  pub count : c.count ≡ (check log).count
  pub whole : places ≡ room c.card
  pub fits : places ≤ room_of

-- the log is refused for this
pub record Stops (log : List ℕ) (f : Fault) : Type 0 where
  pub refusal : refusal_number f.refusal ≡ replay_refusal log
  pub record_number : f.«record» ≡ (check log).fault.record_number
