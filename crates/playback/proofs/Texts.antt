-- What the replay prints, for each way out. Assumes nothing.
use Rattle.std.specs.Prelude.{◌≡◌, ◌≢◌, refl, List, ℕ, zero, suc}
use Rattle.std.proofs.Common.{ap, ap₂, sym, ◌∙◌}
use Rattle.card.specs.declared.Card.{Card}
use Rattle.card.specs.Paper.{refusal_number}
use Rattle.card.specs.Limits.{refused}
use Rattle.lines.specs.Paper.{refusal_line}
use Rattle.slotlog.specs.Paper.{check}
use Rattle.slotlog.specs.declared.Checked.{Checked}
use Rattle.slotlog.specs.declared.Fault.{Fault}
use Rattle.playback.specs.Printed.{played, begun, ended, text_after, replay_text}
use Rattle.playback.specs.Outcome.{Runs, Stops}

pub run_text : (log : List ℕ) (c : Checked) (places : ℕ) → Runs log c places → ended (played log (begun c.card) c.count) ≡ replay_text log
unfolding text_after
run_text log c places r = ap₂ (λ (d : Card) (n : ℕ). ended (played log (begun d) n)) r.card r.count ∙ sym (ap (text_after log) r.taken)

text_of_refusal : (log : List ℕ) (r : ℕ) → r ≢ 0 → refusal_line r (check log).fault.record_number ≡ text_after log r
unfolding text_after
text_of_refusal log zero d = absurd (d refl)
text_of_refusal log (suc r) d = refl

pub refusal_text : (log : List ℕ) (f : Fault) (n : ℕ) → Stops log f → n ≡ refusal_number f.refusal → refusal_line n f.«record» ≡ replay_text log
refusal_text log f n s e =
    ap₂ refusal_line e s.record_number
    ∙ text_of_refusal log (refusal_number f.refusal) (refused f.refusal)
    ∙ ap (text_after log) s.refusal
