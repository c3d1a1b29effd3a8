-- The two ways that a call ends, the steps that an accepted one goes through, and what every call keeps, over any run. Assumes nothing.
use Rattle.std.specs.Prelude.{◌≡◌, ◌⊎◌, ◌≢◌, true, List, [], ◌∷◌, ℕ, ◌≤◌, ◌<◌, length}
use Rattle.std.proofs.Math.Path.{refl}
use Rattle.std.proofs.Common.{◌∙◌, subst, inl, inr, arith}
use Rattle.masks.specs.Tests.{lt_or_ge, eq_or_ne}
use Rattle.card.specs.Paper.{ports, none, names_below}
use Rattle.matches.specs.Paper.{partner, tab}
use Rattle.matches.proofs.Lists.{get_or_tab, get_or_tab_out}
use Rattle.slot.specs.declared.Record.{Record}
use Rattle.slot.specs.Paper.{State, Stepped, queues, well_formed, silent, arrived, match_of, left, next_slot, accepted}
use Rattle.slot.specs.Ready.{Ready, ready_next, well_formed_lem}
use Rattle.slot.proofs.Refused.{refusal_of, slot_refused, slot_accepted}
use Rattle.slot.specs.Accepted.{Fit}
use Rattle.slot.proofs.Accepted.{fit, arrived_along}
use Rattle.slot.specs.Matched.{are_partners}
use Rattle.slot.specs.Arriving as arriving
use Rattle.slot.specs.Sending as sending
use Rattle.runs.specs.Paper.{Call, answer, after}

-- ---- a call is accepted, or refused: "a refused slot returns the given record and a report with nothing sent"

abbrev pub refusal : State → Call → ℕ
refusal s c = refusal_of s c.hold c.arrivals

abbrev pub agreed : State → Call → Stepped
agreed s c = accepted s c.hold c.arrivals

abbrev pub refused : State → ℕ → Stepped
refused s k = record { refusal = k; state = s; report = silent }

pub by_answer : (s : State) (c : Call) (Q : Stepped → Type 0) → (refusal s c ≡ 0 → Q (agreed s c)) → ((k : ℕ) → k ≢ 0 → Q (refused s k)) → Q (answer s c)
by_answer s c Q f g = go (eq_or_ne (refusal s c) 0)
  where
    go : (refusal s c ≡ 0) ⊎ (refusal s c ≢ 0) → Q (answer s c)
    go (inl e) = subst Q (slot_accepted s c.hold c.arrivals e) (f e)
    go (inr d) = subst Q (slot_refused s c.hold c.arrivals (refusal s c) silent refl d refl) (g (refusal s c) d)

-- nothing sent
pub silent_partner : (i : ℕ) → partner silent.partners i ≡ none
unfolding silent
silent_partner i = go (lt_or_ge i ports)
  where
    go : (i < ports) ⊎ (ports ≤ i) → partner (tab ports (λ _. none)) i ≡ none
    go (inl h) = get_or_tab ports (λ _. none) i none h
    go (inr h) = get_or_tab_out ports (λ _. none) i none h

-- ---- the states that an accepted call goes through

-- after the arrivals
abbrev pub reached : State → Call → State
reached s c = (arrived s c.arrivals).state

abbrev pub partners_of : State → Call → List ℕ
partners_of s c = (match_of (reached s c).kept c.hold).partners

-- after the departures
abbrev pub gone : State → Call → State
gone s c = (left (reached s c) (partners_of s c)).state

module _ (s : State) (c : Call) where
  pub agreed_zero : (agreed s c).refusal ≡ 0
  unfolding accepted
  agreed_zero = refl

  pub agreed_state : (agreed s c).state ≡ next_slot (gone s c)
  unfolding accepted
  agreed_state = refl

-- what holds on the way
pub record Way (s : State) (c : Call) : Type 0 where
  pub fits : Fit s c.hold c.arrivals
  pub arriving : arriving.Along s s.kept.card.m (arrived s c.arrivals)
  pub held : names_below (reached s c).kept.card.n c.hold ≡ true
  pub partners : sending.Partners (reached s c).kept.card (reached s c).kept.counts (partners_of s c)
  pub leaving : sending.Along (reached s c) (reached s c).kept.card.m (left (reached s c) (partners_of s c))

way : (s : State) → Ready s → (c : Call) → refusal s c ≡ 0 → Way s c
way s r c z =
    let f = fit s c.hold c.arrivals r.heads_long r.counts_long z in
    let a = arrived_along s c.hold c.arrivals f in
    let h : names_below (reached s c).kept.card.n c.hold ≡ true = rw a.card f.hold_fits in
    let p = are_partners (reached s c) a.ready c.hold h in
    record {
      fits = f;
      arriving = a;
      held = h;
      partners = p;
      leaving = sending.all_keeps (reached s c) a.ready (partners_of s c) p (reached s c).kept.card.m (omega arith);
    }

-- a call to a card that a slot can work on
pub by_way : (s : State) → Ready s → (c : Call) (Q : Stepped → Type 0) → (Way s c → Q (agreed s c)) → ((k : ℕ) → k ≢ 0 → Q (refused s k)) → Q (answer s c)
by_way s r c Q f g = by_answer s c Q (λ z. f (way s r c z)) g

-- ---- what a call keeps: a card that a slot can work on, and its size

pub record Keeps (s t : State) : Type 0 where
  pub ready : Ready t
  pub card : t.kept.card ≡ s.kept.card

agreed_keeps : (s : State) (c : Call) → Way s c → Keeps s (agreed s c).state
unfolding accepted
agreed_keeps s c w = record { ready = ready_next (gone s c) w.leaving.ready; card = w.leaving.card ∙ w.arriving.card }

pub answer_keeps : (s : State) → Ready s → (c : Call) → Keeps s (answer s c).state
answer_keeps s r c = by_way s r c (λ x. Keeps s x.state) (agreed_keeps s c) (λ k d. record { ready = r; card = refl })

pub after_keeps : (calls : List Call) (s : State) → Ready s → Keeps s (after s calls)
unfolding after
after_keeps [] s r = record { ready = r; card = refl }
after_keeps (c ∷ calls) s r =
    let one = answer_keeps s r c in
    let rest = after_keeps calls (answer s c).state one.ready in
    record { ready = rest.ready; card = rest.card ∙ one.card }

-- ---- a well-formed record stays well formed, whatever the call and whatever lists are lent

pub record Formed (r : Record) : Type 0 where
  pub formed : well_formed r ≡ true
  pub heads_long : length r.heads ≡ queues
  pub counts_long : length r.counts ≡ queues

pub stays_well_formed : (s : State) (c : Call) → Formed s.kept → Formed (answer s c).state.kept
stays_well_formed s c f = by_answer s c (λ x. Formed x.state.kept) (λ z. go (agreed_keeps s c (way s (fit s c.hold c.arrivals f.heads_long f.counts_long z).ready c z)).ready) (λ k d. f)
  where
    go : Ready (agreed s c).state → Formed (agreed s c).state.kept
    go r = record { formed = well_formed_lem (agreed s c).state r; heads_long = r.heads_long; counts_long = r.counts_long }
