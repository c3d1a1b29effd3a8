-- Document 01, "The replay program": what a log is refused for. This file is what a reader must believe. Assumes nothing.
use Rattle.std.specs.Prelude.{List, ℕ, zero, suc, ◌*◌, leb}
use Rattle.card.specs.Paper.{unless}
use Rattle.slotlog.specs.Paper.{Checked, check}

-- "Its room is 2,048 places"
abbrev pub room_of : ℕ
room_of = 2048

-- "a larger M·N·D prints `R 2 0`, tested after the whole-log check"; 0: the log is run
unfoldable pub refusal_after : Checked → ℕ
refusal_after c = elim c.fault.refusal [ zero ↦ unless (leb (c.m * c.n * c.d) room_of) 2 0 | suc r ↦ suc r ]

unfoldable pub replay_refusal : List ℕ → ℕ
replay_refusal log = refusal_after (check log)
