-- The departures of a slot: each way out of a step as a law about the definition, and what a step keeps. Assumes nothing.
use Rattle.std.specs.Prelude.{◌≡◌, ℕ, zero, suc, true, ◌&&◌, nat_lt, ◌+◌, ◌*◌, ◌<◌, ◌≤◌, ◌⊎◌, ◌↔◌, Option, Some, None, IsSome, IsTrue, List, [], ◌∷◌, length, ◌≢◌, slice_index_or, slice_set, refl}
use Rattle.std.proofs.Common.{sym, ◌∙◌, inl, inr, ⊎_elim, le_of_suc-le-suc, add-one, arith, get_or-set_other, lt-ltb, eq-eqb, ne_eqb}
use Rattle.masks.specs.Tests.{and_true}
use Rattle.std.proofs.Math.Path.{ap}
use borrow.Rule.Slice.PartMut.{mid_of, put_mid}
use Rattle.card.specs.declared.Card.{Card}
use Rattle.card.specs.declared.Out.{Out}
use Rattle.card.specs.Paper.{ports, none, out, index, one_departed}
use Rattle.queue.specs.declared.Sent.{Sent}
use Rattle.queue.specs.Paper.{Ring, Sending, ring_of, standing, sent_of, sent, oldest, oldest_stamp, wait_of, send}
use Rattle.queue.specs.Steps.{send_oldest}
use Rattle.matches.specs.Paper.{at, partner}
use Rattle.search.specs.First.{numbers}
use Rattle.queue.specs.declared.Queue.{Queue}
use Rattle.slot.specs.declared.Record.{Record}
use Rattle.slot.specs.Paper.{State, Leaving, queue_at, with_queue, counting, send_from, send_one, send_all, unsent}
use Rattle.slot.specs.Answers.{state_of, sending_of}
use Rattle.slot.specs.Stretch.{index_in}
use Rattle.slot.specs.Ready.{Ready, used, sound, stands, sent_sound, ready_with, ready_counting, put_back, with_card, with_slot}

-- input i's partner, as an output and as a number
pub partner_at : (l : List Out) (i : ℕ) → i < length l → (slice_index_or l i (out 0)).0 ≡ partner (numbers l) i
partner_at [] i h = absurd (omega arith)
partner_at (o ∷ l) zero h = refl
partner_at (o ∷ l) (suc i) h = partner_at l i (le_of_suc-le-suc h)

-- what input i can send to: none, or an output whose queue is not empty
abbrev pub Sends : Card → (counts : List ℕ) → (i j : ℕ) → Type 0
Sends c counts i j = (j ≡ none) ⊎ ((j < c.n) × (0 < at counts (index c i j)))

pub sends : (c : Card) (counts : List ℕ) (i j : ℕ) → Sends c counts i j → (j ≢ none) → (j < c.n) × (0 < at counts (index c i j))
sends c counts i j w p = ⊎_elim (λ e. absurd (p e)) (λ l. l) w

pub record Partners (c : Card) (counts p : List ℕ) : Type 0 where
  pub all : (i : ℕ) → i < c.m → Sends c counts i (partner p i)

-- ---- queue k sends

pub record From (l : Leaving) (i k : ℕ) : Type 0 where
  pub ready : Ready l.state
  pub input : i < ports
  pub here : k < used l.state
  pub some : 0 < at l.state.kept.counts k

module _ (r : Record) (cells stamps : List ℕ) where
  -- w is D, as the code has it
  pub from_sent : (i k w : ℕ) (x : Option Sent) (next : Queue) (cs ss told waits : List ℕ)
      → From (unsent (state_of r cells stamps)) i k → w ≡ r.card.d
      → (IsSome x ↔ IsTrue (standing (ring_of (record { head = at r.heads k; count = at r.counts k }) (mid_of (k * r.card.d) w cells) (mid_of (k * r.card.d) w stamps)) && nat_lt 0 (at r.counts k)))
      → sent_of x next cs ss ≡ send r.slot (ring_of (record { head = at r.heads k; count = at r.counts k }) (mid_of (k * r.card.d) w cells) (mid_of (k * r.card.d) w stamps))
      → sending_of i x (record r { heads = slice_set r.heads k next.head; counts = slice_set r.counts k next.count; counters = one_departed r.counters })
      (put_mid (k * r.card.d) w cells cs) (put_mid (k * r.card.d) w stamps ss) told waits
      ≡ send_from i k (record { state = state_of r cells stamps; cells = told; waits = waits })
  unfolding send_from queue_at
  from_sent i k w x next cs ss told waits f e some h =
      rw e (go x (some.1 (rw e (and_true up (lt-ltb 0 (at r.counts k) f.some)))) ((rw e at h) ∙ sym (send_oldest r.slot q up f.some)))
    where
      s : State
      s = state_of r cells stamps

      q : Ring
      q = queue_at s k

      up : standing q ≡ true
      up = stands s f.ready q (sound s f.ready k f.here)

      go : (x : Option Sent) → IsSome x → sent_of x next cs ss ≡ record { ring = sent q; cell = oldest q; wait = wait_of r.slot (oldest_stamp q) }
          → sending_of i x (record r { heads = slice_set r.heads k next.head; counts = slice_set r.counts k next.count; counters = one_departed r.counters })
          (put_mid (k * r.card.d) r.card.d cells cs) (put_mid (k * r.card.d) r.card.d stamps ss) told waits
          ≡ send_from i k (record { state = state_of r cells stamps; cells = told; waits = waits })
      go None n same = cc
      go (Some x) n same =
          rw (ap (λ (y : Sending). y.cell) same, ap (λ (y : Sending). y.wait) same)
          (ap (λ (y : State). record { state = counting one_departed y; cells = slice_set told i (oldest q); waits = slice_set waits i (wait_of r.slot (oldest_stamp q)) })
          (put_back s k (ring_of next cs ss) (sent q) (ap (λ (y : Sending). y.ring) same)))

-- ---- input i sends

pub record Can (l : Leaving) (i j : ℕ) : Type 0 where
  pub ready : Ready l.state
  pub input : i < l.state.kept.card.m
  pub output : Sends l.state.kept.card l.state.kept.counts i j

pub can_from : (l : Leaving) (i j : ℕ) → Can l i j → (j ≢ none) → From l i (index l.state.kept.card i j)
can_from l i j b d =
    record {
      ready = b.ready;
      input = omega (arith, b.input, b.ready.sizes.ports.ins.high);
      here = index_in _ _ i j b.input (sends l.state.kept.card l.state.kept.counts i j b.output d).0;
      some = (sends l.state.kept.card l.state.kept.counts i j b.output d).1;
    }

pub one_none : (i j : ℕ) (l : Leaving) → j ≡ none → l ≡ send_one i j l
unfolding send_one
one_none i j l e = rw (eq-eqb j none e)

pub one_some : (i j k : ℕ) (l r : Leaving) → (j ≢ none) → k ≡ index l.state.kept.card i j → r ≡ send_from i k l → r ≡ send_one i j l
unfolding send_one
one_some i j k l r d e h = rw (ne_eqb j none d, ← e) h

-- one input more, in the form of a loop's counter
pub all_step : (p : List ℕ) (i j : ℕ) (u l r : Leaving) → l ≡ send_all p i u → j ≡ partner p i → r ≡ send_one i j l → r ≡ send_all p (i + 1) u
unfolding send_all
all_step p i j u l r h q e = e ∙ ap (send_one i j) h ∙ ap (λ (k : ℕ). send_one i k (send_all p i u)) q ∙ ap (λ (n : ℕ). send_all p n u) (sym (add-one i))

-- ---- what the departures keep: s before them, l after those of the first i inputs, whose rows alone have changed

pub record Along (s : State) (i : ℕ) (l : Leaving) : Type 0 where
  pub ready : Ready l.state
  pub card : l.state.kept.card ≡ s.kept.card
  pub slot : l.state.kept.slot ≡ s.kept.slot
  pub later : (q : ℕ) → i * s.kept.card.n ≤ q → at l.state.kept.counts q ≡ at s.kept.counts q

pub along_unsent : (s : State) → Ready s → Along s 0 (unsent s)
along_unsent s r = record { ready = r; card = refl; slot = refl; later = λ q h. refl }

-- an input whose turn is still to come can send where it could
pub still : (s : State) (i j : ℕ) (l : Leaving) → Along s i l → Sends s.kept.card s.kept.counts i j → Sends l.state.kept.card l.state.kept.counts i j
still s i j l a w = ⊎_elim (λ e. inl e) (λ q. inr (rw a.card q.0, go q.1)) w
  where
    go : 0 < at s.kept.counts (index s.kept.card i j) → 0 < at l.state.kept.counts (index l.state.kept.card i j)
    go h = rw (a.card, a.later (index s.kept.card i j) (omega arith)) h

with_count : (k : ℕ) (q : Ring) (s : State) (j : ℕ) → (j ≢ k) → at (with_queue k q s).kept.counts j ≡ at s.kept.counts j
unfolding with_queue
with_count k q s j n = get_or-set_other s.kept.counts k j q.count 0 n

from_keeps : (s : State) (i k : ℕ) (l : Leaving) → Along s i l → k < used l.state → k < suc i * s.kept.card.n → Along s (suc i) (send_from i k l)
unfolding send_from
from_keeps s i k l a b h =
    let t = l.state in
    record {
      ready = ready_counting _ (ready_with t a.ready k b _ (sent_sound _ _ (sound t a.ready k b))) one_departed;
      card = with_card k _ t ∙ a.card;
      slot = with_slot k _ t ∙ a.slot;
      later = λ q g. with_count k _ t q (λ e. absurd (omega arith)) ∙ a.later q (omega (arith, grow));
    }
  where
    grow : i * s.kept.card.n ≤ suc i * s.kept.card.n
    grow = omega arith

pub one_keeps : (s : State) (i j : ℕ) (l : Leaving) → Along s i l → i < s.kept.card.m → Sends s.kept.card s.kept.counts i j → Along s (suc i) (send_one i j l)
unfolding send_one
one_keeps s i j l a b (inl e) = rw (eq-eqb j none e) (record { ready = a.ready; card = a.card; slot = a.slot; later = λ q g. a.later q (omega arith) })
one_keeps s i j l a b (inr h) =
    let q = a.ready.sizes.ports.outs.high in
    let p : j < l.state.kept.card.n = rw a.card h.0 in
    rw (ne_eqb j none (λ e. absurd (omega arith)))
    (from_keeps s i (index l.state.kept.card i j) l a
    (index_in _ _ i j (rw a.card b) p)
    (rw a.card (omega (arith, h.0))))

module _ (s : State) (r : Ready s) (p : List ℕ) (w : Partners s.kept.card s.kept.counts p) where
  pub all_keeps : (i : ℕ) → i ≤ s.kept.card.m → Along s i (send_all p i (unsent s))
  unfolding send_all
  all_keeps zero l = along_unsent s r
  all_keeps (suc i) l = one_keeps s i (partner p i) (send_all p i (unsent s)) (all_keeps i (omega arith)) (omega arith) (w.all i (omega arith))
