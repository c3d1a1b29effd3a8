-- The room that a log's card takes, and each way out of the replay as a law about the definition. Assumes nothing.
use Rattle.std.specs.Prelude.{◌≡◌, refl, true, cond, ◌≢◌, List, ℕ, zero, suc, ◌*◌, ◌≤◌, ◌<◌, leb}
use Rattle.std.proofs.Common.{sym, ◌∙◌, subst, le-leb}
use Rattle.std.proofs.Math.Path.{ap}
use Rattle.std.proofs.lemmas.Bool.{lt-leb}
use Rattle.card.specs.declared.Card.{Card}
use Rattle.card.specs.Paper.{unless, card_fits}
use Rattle.card.specs.Limits.{are_sizes}
use Rattle.slotlog.specs.Paper.{Checked, check}
use Rattle.slotlog.specs.Head.{head_is}
use Rattle.slotlog.specs.Checking.{passed_whole, whole_passes}
use Rattle.playback.specs.Paper.{room_of, refusal_after, replay_refusal}

-- of a card within its limits; 0 of another
unfoldable pub places_of : Card → ℕ
places_of c = cond (card_fits c.m c.n c.d) (c.m * c.n * c.d) 0

-- a log that passes has a card within its limits
pub passed_fits : (log : List ℕ) → (check log).fault.refusal ≡ 0 → card_fits (check log).m (check log).n (check log).d ≡ true
passed_fits log e =
    let w = passed_whole log e in
    rw (whole_passes log w) (are_sizes _ _ _ (head_is log w.head).sizes)

-- of what the check answered
after_refused : (c : Checked) (r : ℕ) → c.fault.refusal ≡ r → r ≢ 0 → r ≡ refusal_after c
unfolding refusal_after
after_refused c r e d = rw e (go r d)
  where
    go : (r : ℕ) → r ≢ 0 → r ≡ elim r [ zero ↦ unless (leb (c.m * c.n * c.d) room_of) 2 0 | suc r ↦ suc r ]
    go zero d = absurd (d refl)
    go (suc r) d = refl

after_large : (c : Checked) → c.fault.refusal ≡ 0 → room_of < c.m * c.n * c.d → 2 ≡ refusal_after c
unfolding refusal_after
after_large c z l = rw (z, lt-leb (c.m * c.n * c.d) room_of l)

after_run : (c : Checked) → c.fault.refusal ≡ 0 → c.m * c.n * c.d ≤ room_of → 0 ≡ refusal_after c
unfolding refusal_after
after_run c z l = rw (z, le-leb (c.m * c.n * c.d) room_of l)

module _ (log : List ℕ) (c : Checked) (h : c ≡ check log) where
  is_after : refusal_after c ≡ replay_refusal log
  unfolding replay_refusal
  is_after = ap refusal_after h

  pub refused : (r : ℕ) → c.fault.refusal ≡ r → r ≢ 0 → r ≡ replay_refusal log
  refused r e d = after_refused c r e d ∙ is_after

  module _ (z : c.fault.refusal ≡ 0) (card : Card) (em : card.m ≡ c.m) (en : card.n ≡ c.n) (ed : card.d ≡ c.d) where
    fits : card_fits c.m c.n c.d ≡ true
    fits = subst (λ (x : Checked). card_fits x.m x.n x.d ≡ true) (sym h) (passed_fits log (ap (λ (x : Checked). x.fault.refusal) (sym h) ∙ z))

    places_are : places_of card ≡ c.m * c.n * c.d
    unfolding places_of
    places_are = rw (em, en, ed, fits)

    pub too_large : (p : ℕ) → p ≡ places_of card → room_of < p → 2 ≡ replay_refusal log
    too_large p e l = after_large c z (rw (e ∙ places_are) at l) ∙ is_after

    pub large_enough : (p : ℕ) → p ≡ places_of card → p ≤ room_of → 0 ≡ replay_refusal log
    large_enough p e l = after_run c z (rw (e ∙ places_are) at l) ∙ is_after
