-- What the arrivals of a slot do to one queue: queue (i, j) stores the cell of input i's arrival where that is for j and not dropped. Assumes nothing.
use Rattle.std.specs.Prelude.{◌≡◌, refl, ◌⊎◌, ◌≢◌, Bool, true, false, cond, not, ◌&&◌, ℕ, suc, ◌^◌, ◌≤◌, ◌<◌, eqb}
use Rattle.std.proofs.Math.Path.{sym, ap, ap₂}
use Rattle.std.proofs.Common.{◌∙◌, inl, inr, arith, eq-eqb, ne_eqb}
use Rattle.masks.specs.Paper.{bit, has}
use Rattle.masks.specs.Tests.{lt_or_ge, eq_or_ne, clash}
use Rattle.masks.proofs.Laws.{on_has, off_has}
use Rattle.card.specs.declared.Card.{Card}
use Rattle.card.specs.declared.Arrivals.{Arrivals}
use Rattle.card.specs.Paper.{none, output_at, cell_at, arrivals_fit, index, one_stored, one_dropped}
use Rattle.queue.specs.Paper.{Ring, stored}
use Rattle.matches.specs.Paper.{at}
use Rattle.slot.specs.Paper.{State, Taking, queue_at, with_queue, take_in, take_all, begun, arrived}
use Rattle.slot.specs.Ready.{Ready, used, Sound, sound, stored_sound, count_at, same_queue, other_queue}
use Rattle.slot.specs.Arriving.{wants, wanted, one_none, one_some, Along, all_keeps}
use Rattle.runs.proofs.Turns.{counting_queue, here_in, in_room, in_full, by_room, clear, grown, before, since, turn_apart}

-- q' is q with a cell stored where the test t holds, for which there was room
pub record Stores (t : Bool) (cell slot d : ℕ) (q q' : Ring) : Type 0 where
  pub becomes : q' ≡ cond t (stored cell slot q) q
  pub room : t ≡ true → q.count < d

pub no_store : (t : Bool) (cell slot d : ℕ) (q q' : Ring) → t ≡ false → q' ≡ q → Stores t cell slot d q q'
no_store t cell slot d q q' e h = rw e (record { becomes = h; room = λ x. clash x refl })

-- what an input's turn can change: queue k, and bit i of the mask
record Seen : Type 0 where
  ring : Ring
  lost : ℕ

seen : (i k : ℕ) → Taking → Seen
seen i k t = record { ring = queue_at t.state k; lost = bit t.dropped i }

-- ---- one arrival

module _ (t : Taking) (r : Ready t.state) (i k cell : ℕ) (l : k < used t.state) where
  abbrev put : Ring
  put = stored cell t.state.kept.slot (queue_at t.state k)

  put_sound : at t.state.kept.counts k < t.state.kept.card.d → Sound t.state.kept.card.d put
  put_sound h = stored_sound _ cell t.state.kept.slot _ (sound t.state r k l) (rw (count_at t.state k) h)

  module _ (p : i < 32) (low : t.dropped < 2 ^ i) where
    -- at the queue it is for
    same_room : at t.state.kept.counts k < t.state.kept.card.d → seen i k (take_in i k cell t) ≡ record { ring = put; lost = 0 }
    unfolding seen
    same_room h =
        ap (seen i k) (in_room i k cell t h)
        ∙ ap₂ (λ (x : Ring) (y : ℕ). record { ring = x; lost = y })
        (counting_queue one_stored (with_queue k put t.state) k ∙ same_queue t.state r k l put (put_sound h))
        (clear t.dropped i low)

    same_full : t.state.kept.card.d ≤ at t.state.kept.counts k → seen i k (take_in i k cell t) ≡ record { ring = queue_at t.state k; lost = 1 }
    unfolding seen
    same_full h =
        ap (seen i k) (in_full i k cell t h)
        ∙ ap₂ (λ (x : Ring) (y : ℕ). record { ring = x; lost = y }) (counting_queue one_dropped t.state k) ((grown t.dropped i p low).here p)

    -- at another input's bit
    other_bit : (n : ℕ) → n ≢ i → bit (take_in i k cell t).dropped n ≡ bit t.dropped n
    other_bit n d = by_room i k cell t (λ (x : Taking). bit x.dropped n ≡ bit t.dropped n) (λ h. refl) (λ h. (grown t.dropped i p low).other n d)

  -- at another queue
  missed : (j : ℕ) → j ≢ k → queue_at (take_in i k cell t).state j ≡ queue_at t.state j
  missed j e =
      by_room i k cell t (λ (x : Taking). queue_at x.state j ≡ queue_at t.state j)
      (λ h. counting_queue one_stored (with_queue k put t.state) j ∙ other_queue t.state r k l put (put_sound h) j e)
      (λ h. counting_queue one_dropped t.state j)

-- ---- all arrivals, and queue (i, j)

module _ (s : State) (r : Ready s) (a : Arrivals) (f : arrivals_fit s.kept.card.m s.kept.card.n a ≡ true) where
  taking : ℕ → Taking
  taking n = take_all a n (begun s)

  along : (n : ℕ) → n ≤ s.kept.card.m → Along s n (taking n)
  unfolding taking
  along n l = all_keeps s r a f n l

  -- input n's turn, with an arrival and without
  turn_none : (n : ℕ) → output_at a n ≡ none → taking (suc n) ≡ taking n
  unfolding taking take_all
  turn_none n e = sym (one_none n (output_at a n) (cell_at a n) (take_all a n (begun s)) e)

  turn_some : (n : ℕ) → n ≤ s.kept.card.m → output_at a n ≢ none → taking (suc n) ≡ take_in n (index s.kept.card n (output_at a n)) (cell_at a n) (taking n)
  unfolding taking take_all
  turn_some n l d =
      sym (one_some n (output_at a n) (index s.kept.card n (output_at a n)) (cell_at a n) (take_all a n (begun s)) _ d
      (ap (λ (c : Card). index c n (output_at a n)) (sym (along n l).card)) refl)

  -- its arrival is for an output of the card
  wanted_in : (n : ℕ) → n < s.kept.card.m → output_at a n ≢ none → output_at a n < s.kept.card.n
  wanted_in n l d = let h = r.sizes.ports.ins.high in wants (wanted _ _ a f n (omega arith)) d

  module _ (i j : ℕ) (li : i < s.kept.card.m) (lj : j < s.kept.card.n) where
    k : ℕ
    k = index s.kept.card i j

    -- another input's turn
    others : (n : ℕ) → n < s.kept.card.m → n ≢ i → seen i k (taking (suc n)) ≡ seen i k (taking n)
    unfolding k seen
    others n l d =
        let w = along n (omega arith) in
        let p : n < 32 = (let u = r.sizes.ports.ins.high in omega arith) in
        turn_apart _ _ (output_at a) wanted_in (λ x. seen i k (taking x)) i j n lj l (λ e. ap (seen i k) (turn_none n e))
        (λ e x. let h = here_in s (taking n).state w.card n (output_at a n) l (wanted_in n l e) in
        ap (seen i k) (turn_some n (omega arith) e)
        ∙ ap₂ (λ (y : Ring) (z : ℕ). record { ring = y; lost = z })
        (missed (taking n) w.ready n _ (cell_at a n) h k x) (other_bit (taking n) w.ready n _ (cell_at a n) h p w.low i (λ z. d (sym z))))
        (inl d)

    ended : seen i k (taking s.kept.card.m) ≡ seen i k (taking (suc i))
    ended = since (λ n. seen i k (taking n)) s.kept.card.m i others s.kept.card.m li (omega arith)

    begins : queue_at (taking i).state k ≡ queue_at s k
    unfolding seen taking take_all
    begins = ap (λ (x : Seen). x.ring) (before (λ n. seen i k (taking n)) s.kept.card.m i others (omega arith) i (omega arith))

    -- its own turn: there is room, or not, or the arrival is for another
    room_then : (queue_at s k).count < s.kept.card.d → at (taking i).state.kept.counts k < (taking i).state.kept.card.d
    room_then h = rw (← count_at (taking i).state k, begins, (along i (omega arith)).card) h

    full_then : s.kept.card.d ≤ (queue_at s k).count → (taking i).state.kept.card.d ≤ at (taking i).state.kept.counts k
    full_then h = rw (← count_at (taking i).state k, begins, (along i (omega arith)).card) h

    module _ (e : output_at a i ≡ j) where
      own_turn : taking (suc i) ≡ take_in i k (cell_at a i) (taking i)
      unfolding k
      own_turn =
          turn_some i (omega arith) (λ x. absurd (let u = r.sizes.ports.outs.high in omega arith))
          ∙ ap (λ (x : ℕ). take_in i (index s.kept.card i x) (cell_at a i) (taking i)) e

      here_now : k < used (taking i).state
      unfolding k
      here_now = here_in s (taking i).state (along i (omega arith)).card i j li lj

      small : i < 32
      small = let u = r.sizes.ports.ins.high in omega arith

      met_room : (queue_at s k).count < s.kept.card.d → seen i k (taking s.kept.card.m) ≡ record { ring = stored (cell_at a i) s.kept.slot (queue_at s k); lost = 0 }
      met_room h =
          let w = along i (omega arith) in
          ended ∙ ap (seen i k) own_turn ∙ same_room (taking i) w.ready i k (cell_at a i) here_now small w.low (room_then h)
          ∙ ap₂ (λ (x : ℕ) (q : Ring). record { ring = stored (cell_at a i) x q; lost = 0 }) w.slot begins

      met_full : s.kept.card.d ≤ (queue_at s k).count → seen i k (taking s.kept.card.m) ≡ record { ring = queue_at s k; lost = 1 }
      met_full h =
          let w = along i (omega arith) in
          ended ∙ ap (seen i k) own_turn ∙ same_full (taking i) w.ready i k (cell_at a i) here_now small w.low (full_then h)
          ∙ ap (λ (q : Ring). record { ring = q; lost = 1 }) begins

    unmet : output_at a i ≢ j → queue_at (taking s.kept.card.m).state k ≡ queue_at s k
    unfolding k seen
    unmet d =
        let w = along i (omega arith) in
        ap (λ (x : Seen). x.ring) ended
        ∙ turn_apart _ _ (output_at a) wanted_in (λ x. queue_at (taking x).state k) i j i lj li (λ e. ap (λ (t : Taking). queue_at t.state k) (turn_none i e))
        (λ e x.
        ap (λ (t : Taking). queue_at t.state k) (turn_some i (omega arith) e)
        ∙ missed (taking i) w.ready i _ (cell_at a i) (here_in s (taking i).state w.card i (output_at a i) li (wanted_in i li e)) k x)
        (inr d)
        ∙ begins

    -- "If its queue has D cells it is dropped .. Otherwise it is stored": the mask tells which
    pub arrives_at : Stores (eqb (output_at a i) j && not (has (arrived s a).dropped i)) (cell_at a i) s.kept.slot s.kept.card.d
        (queue_at s (index s.kept.card i j)) (queue_at (arrived s a).state (index s.kept.card i j))
    unfolding taking seen k
    arrives_at = go (eq_or_ne (output_at a i) j) (lt_or_ge (queue_at s k).count s.kept.card.d)
      where
        ends : Taking
        ends = taking s.kept.card.m

        go : (output_at a i ≡ j) ⊎ (output_at a i ≢ j) → ((queue_at s k).count < s.kept.card.d) ⊎ (s.kept.card.d ≤ (queue_at s k).count)
            → Stores (eqb (output_at a i) j && not (has ends.dropped i)) (cell_at a i) s.kept.slot s.kept.card.d (queue_at s k) (queue_at ends.state k)
        go (inl e) (inl h) =
            let m = met_room e h in
            rw (eq-eqb _ _ e, off_has ends.dropped i (ap (λ (x : Seen). x.lost) m)) (record { becomes = ap (λ (x : Seen). x.ring) m; room = λ _. h })
        go (inl e) (inr h) =
            let m = met_full e h in
            no_store _ _ _ _ _ _ (rw (eq-eqb _ _ e, on_has ends.dropped i (ap (λ (x : Seen). x.lost) m))) (ap (λ (x : Seen). x.ring) m)
        go (inr d) h = no_store _ _ _ _ _ _ (rw (ne_eqb _ _ d)) (unmet d)
