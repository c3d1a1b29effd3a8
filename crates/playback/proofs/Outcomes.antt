-- The ways out of the check, each as a law. Assumes nothing.
use Rattle.std.specs.Prelude.{◌≡◌, refl, true, List, ℕ, ◌≤◌, ◌<◌, Ok, Err}
use Rattle.std.proofs.Common.{sym, ap, ◌∙◌, subst}
use Rattle.card.specs.declared.Card.{Card}
use Rattle.card.specs.declared.Refusal.TheVariants.{Length}
use Rattle.card.specs.Paper.{card_fits, refusal_number}
use Rattle.card.specs.Limits as limits
use Rattle.slot.specs.Paper.{room}
use Rattle.slotlog.specs.Paper.{check}
use Rattle.slotlog.specs.Paper as paper
use Rattle.slotlog.specs.Answers.{checked_of}
use Rattle.slotlog.specs.declared.Checked.{Checked}
use Rattle.slotlog.specs.declared.Fault.{Fault}
use Rattle.playback.specs.Paper.{room_of}
use Rattle.playback.specs.Printed.{card_of}
use Rattle.playback.specs.Room.{places_of, passed_fits, refused, too_large, large_enough}
use Rattle.playback.specs.Outcome.{Runs, Stops}

-- the places of a card within its limits
places_are_room : (c : Card) → card_fits c.m c.n c.d ≡ true → places_of c ≡ room c
unfolding places_of
places_are_room c e = rw e

pub check_stops : (log : List ℕ) (f : Fault) → checked_of (Err f) ≡ check log → Stops log f
check_stops log f h =
    record {
      refusal = refused log (checked_of (Err f)) h (refusal_number f.refusal) refl (limits.refused f.refusal);
      record_number = ap (λ (x : paper.Checked). x.fault.record_number) h;
    }

module _ (log : List ℕ) (c : Checked) (h : checked_of (Ok c) ≡ check log) (p : ℕ) (e : p ≡ places_of c.card) where
  pub room_stops : room_of < p → Stops log (record { refusal = Length; «record» = 0 })
  room_stops l =
      record {
        refusal = too_large log (checked_of (Ok c)) h refl c.card refl refl refl p e l;
        record_number = ap (λ (x : paper.Checked). x.fault.record_number) h;
      }

  sizes : card_fits c.card.m c.card.n c.card.d ≡ true
  sizes = subst (λ (x : paper.Checked). card_fits x.m x.n x.d ≡ true) (sym h) (passed_fits log (sym (ap (λ (x : paper.Checked). x.fault.refusal) h)))

  pub both_run : p ≤ room_of → Runs log c p
  both_run l =
      record {
        taken = sym (large_enough log (checked_of (Ok c)) h refl c.card refl refl refl p e l);
        card = ap card_of h;
        count = ap (λ (x : paper.Checked). x.count) h;
        whole = e ∙ places_are_room c.card sizes;
        fits = l;
      }
