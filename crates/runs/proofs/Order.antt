-- Each queue gives its cells in the order it stored them: in one slot, and over any run. Assumes nothing.
use Rattle.std.specs.Prelude.{◌≡◌, refl, Bool, true, false, cond, ℕ, ◌^◌, ◌<◌, length, get_or}
use Rattle.std.proofs.Math.Path.{sym, ap}
use Rattle.std.proofs.Common.{ap₂, ◌∙◌, subst}
use mathlib.Core.List.{List, [], ◌∷◌, ◌++◌, append-nil, append_assoc}
use Rattle.card.specs.declared.Card.{Card}
use Rattle.card.specs.Paper.{cell_at, index}
use Rattle.queue.specs.Paper.{Ring, stored, oldest_stamp, wait_of, in_order}
use Rattle.queue.specs.Order.{Lane, cells_lane, stamps_lane, in_order_stored, in_order_sent, in_order_none}
use Rattle.queue.specs.Steps.{wait_again}
use Rattle.matches.specs.Paper.{at}
use Rattle.slot.specs.Paper.{State, Stepped, queue_at, fresh_refusal}
use Rattle.slot.specs.Stretch.{index_in}
use Rattle.slot.specs.Ready.{Sound}
use Rattle.runs.specs.Paper.{Call, answer, after, start, one, stores_at, sends_at, cell_in, cell_out, stamp_in, stamp_out, history, cells_of, stamps_of}
use Rattle.runs.proofs.Kept.{answer_keeps}
use Rattle.runs.proofs.Arrived.{Stores}
use Rattle.runs.proofs.Departed.{Gives}
use Rattle.runs.proofs.Stamps.{Below, Words, queue_words, stored_words, answer_words}
use Rattle.runs.proofs.Start.{New, is_new}
use Rattle.runs.proofs.Touched.{Slotted, Queued, slotted, queued_keeps}

-- ---- one list of that queue, cells or stamps alike

module _ {of : Ring → List ℕ} {given : (cell slot : ℕ) → ℕ} (v : Lane of given) (d : ℕ) (q : Ring) (o : Sound d q) (deep : length (of q) ≡ d) where
  stores_last : (t : Bool) (cell slot : ℕ) (q' : Ring) → Stores t cell slot d q q' → in_order q (of q) ++ one t (given cell slot) ≡ in_order q' (of q')
  stores_last true cell slot q' h =
      sym (ap (λ (x : Ring). in_order x (of x)) h.becomes
      ∙ in_order_stored v q (deep ∙ sym o.cells_deep) (rw o.cells_deep o.head_in) cell slot (rw o.cells_deep (h.room refl)))
  stores_last false cell slot q' h = append-nil (in_order q (of q)) ∙ sym (ap (λ (x : Ring). in_order x (of x)) h.becomes)

  sends_first : (t : Bool) (slot cell wait : ℕ) (q' : Ring) → Gives t slot q q' cell wait → in_order q (of q) ≡ one t (get_or (of q) q.head 0) ++ in_order q' (of q')
  sends_first true slot cell wait q' h =
      in_order_sent v q (deep ∙ sym o.cells_deep) (rw o.cells_deep o.head_in) (h.some refl) (rw o.cells_deep o.count_in)
      ∙ ap (λ (x : Ring). get_or (of q) q.head 0 ∷ in_order x (of x)) (sym h.becomes)
  sends_first false slot cell wait q' h = ap (λ (x : Ring). in_order x (of x)) (sym h.becomes)

-- what is reported of the oldest cell, in place of it
one_same : (t : Bool) (x y : ℕ) → (t ≡ true → x ≡ y) → one t x ≡ one t y
one_same true x y h = ap (λ (z : ℕ). z ∷ []) (h refl)
one_same false x y h = refl

-- ---- one slot

-- what waits in queue (i, j), of one of its lists
abbrev lane_of : (Ring → List ℕ) → (i j : ℕ) → State → List ℕ
lane_of of i j s = let q = queue_at s (index s.kept.card i j) in in_order q (of q)

module _ (i j : ℕ) (s : State) (c : Call) (r : Stepped) (w : Slotted i j s c r) (same : r.state.kept.card ≡ s.kept.card) where
  -- x is what is reported of the oldest
  slot_order : {of : Ring → List ℕ} {given : (cell slot : ℕ) → ℕ} → Lane of given → ((d : ℕ) (q : Ring) → Sound d q → length (of q) ≡ d)
      → (x : ℕ) → (sends_at i j r ≡ true → x ≡ get_or (of w.between) w.between.head 0)
      → lane_of of i j s ++ one (stores_at i j c r) (given (cell_at c.arrivals i) s.kept.slot) ≡ one (sends_at i j r) x ++ lane_of of i j r.state
  slot_order {of} {given} v deep x e =
      let k = index s.kept.card i j in
      stores_last v _ (queue_at s k) w.was (deep _ _ w.was) (stores_at i j c r) (cell_at c.arrivals i) s.kept.slot w.between w.stores
      ∙ sends_first v _ w.between w.full (deep _ _ w.full) (sends_at i j r) s.kept.slot _ _ (queue_at r.state k) w.sends
      ∙ ap₂ {C = List ℕ} ◌++◌ (one_same (sends_at i j r) _ _ (λ t. sym (e t)))
      (ap (λ (y : Card). let q = queue_at r.state (index y i j) in in_order q (of q)) (sym same))

  cells_step : cells_of i j s ++ cell_in i j s c r ≡ cell_out i j s c r ++ cells_of i j r.state
  cells_step = slot_order cells_lane (λ d q o. o.cells_deep) (at r.report.cells i) w.sends.cell_is

  -- the stamps, of 32 bits, as the waits tell them
  between_words : Words s → Below (2 ^ 32) w.between.stamps
  between_words u = go (stores_at i j c r) w.stores.becomes
    where
      q : Ring
      q = queue_at s (index s.kept.card i j)

      go : (t : Bool) → w.between ≡ cond t (stored (cell_at c.arrivals i) s.kept.slot q) q → Below (2 ^ 32) w.between.stamps
      go true e = subst (λ (x : Ring). Below (2 ^ 32) x.stamps) (sym e) (stored_words (cell_at c.arrivals i) s.kept.slot q u.slot_fits (queue_words s u _))
      go false e = subst (λ (x : Ring). Below (2 ^ 32) x.stamps) (sym e) (queue_words s u _)

  stamps_step : Words s → stamps_of i j s ++ stamp_in i j s c r ≡ stamp_out i j s c r ++ stamps_of i j r.state
  stamps_step u =
      slot_order stamps_lane (λ d q o. o.stamps_deep) (wait_of s.kept.slot (at r.report.waits i))
      (λ t. ap (wait_of s.kept.slot) (w.sends.wait_is t) ∙ wait_again s.kept.slot (oldest_stamp w.between) u.slot_fits (between_words u w.between.head))

-- ---- over the calls, of what a state P keeps

module _ (P : State → Type 0) (keeps : (s : State) (c : Call) → P s → P (answer s c).state) (lane : State → List ℕ) (into out : State → Call → Stepped → List ℕ)
    (step : (s : State) (c : Call) → P s → lane s ++ into s c (answer s c) ≡ out s c (answer s c) ++ lane (answer s c).state) where
  run_order : (calls : List Call) (s : State) → P s → lane s ++ history into s calls ≡ history out s calls ++ lane (after s calls)
  unfolding history after
  run_order [] s p = append-nil (lane s)
  run_order (c ∷ calls) s p =
      let r = answer s c in
      let h = history into r.state calls in
      sym (append_assoc (lane s) (into s c r) h)
      ∙ ap (λ (l : List ℕ). l ++ h) (step s c p)
      ∙ append_assoc (out s c r) (lane r.state) h
      ∙ ap (λ (l : List ℕ). out s c r ++ l) (run_order calls r.state (keeps s c p))
      ∙ sym (append_assoc (out s c r) (history out r.state calls) (lane (after r.state calls)))

-- ---- THE LAWS

module _ (i j : ℕ) where
  -- one call, accepted or refused: what waited in queue (i, j), and then what was stored in it, is what it sent and then what waits
  pub cells_in_slot : (s : State) (c : Call) → Queued i j s → (let r = answer s c in cells_of i j s ++ cell_in i j s c r ≡ cell_out i j s c r ++ cells_of i j r.state)
  cells_in_slot s c p = cells_step i j s c (answer s c) (slotted i j s c p) (answer_keeps s p.ready c).card

  pub stamps_in_slot : (s : State) (c : Call) → Queued i j s × Words s → (let r = answer s c in stamps_of i j s ++ stamp_in i j s c r ≡ stamp_out i j s c r ++ stamps_of i j r.state)
  stamps_in_slot s c p = stamps_step i j s c (answer s c) (slotted i j s c p.0) (answer_keeps s p.0.ready c).card p.1

  -- any run: what waited in it, and then all that was stored, in order, is all that it sent, in order, and then what waits
  pub cells_in_run : (calls : List Call) (s : State) → Queued i j s → cells_of i j s ++ history (cell_in i j) s calls ≡ history (cell_out i j) s calls ++ cells_of i j (after s calls)
  cells_in_run = run_order (Queued i j) (queued_keeps i j) (cells_of i j) (cell_in i j) (cell_out i j) cells_in_slot

  pub stamps_in_run : (calls : List Call) (s : State) → Queued i j s × Words s → stamps_of i j s ++ history (stamp_in i j) s calls ≡ history (stamp_out i j) s calls ++ stamps_of i j (after s calls)
  stamps_in_run =
      run_order (λ s. Queued i j s × Words s) (λ s c p. (queued_keeps i j s c p.0, answer_words s p.0.ready c p.1)) (stamps_of i j) (stamp_in i j) (stamp_out i j) stamps_in_slot

-- ---- a fresh card

module _ (card : Card) (cells stamps : List ℕ) (e : fresh_refusal card (length cells) (length stamps) ≡ 0) (i j : ℕ) (li : i < card.m) (lj : j < card.n) where
  abbrev s : State
  s = start card cells stamps

  new : New card s
  new = is_new card cells stamps e

  queued : Queued i j s
  queued = record { ready = new.ready; input = rw new.card li; output = rw new.card lj }

  -- nothing waits in it, so that what was stored is what was sent and what waits
  from_empty : (of : Ring → List ℕ) (x y : List ℕ) → lane_of of i j s ++ x ≡ y → x ≡ y
  from_empty of x y h =
      let k = index s.kept.card i j in
      sym (ap (λ (z : List ℕ). z ++ x) (in_order_none (queue_at s k) _ (new.empty k (index_in _ _ i j queued.input queued.output)))) ∙ h

  -- "Each matched queue sends its oldest cell"; "Freed places are stored into again": over any run from a fresh card the cells that queue (i, j) stored, in
  -- order, are the cells that it sent, in order, and then those that wait
  pub cells_from_fresh : (calls : List Call) → history (cell_in i j) s calls ≡ history (cell_out i j) s calls ++ cells_of i j (after s calls)
  cells_from_fresh calls = from_empty (λ q. q.cells) _ _ (cells_in_run i j calls s queued)

  -- "the wait is the slot number less the stamp, modulo 4,294,967,296": the slot numbers that they were stored with, likewise, as the waits tell them
  pub stamps_from_fresh : (calls : List Call) → history (stamp_in i j) s calls ≡ history (stamp_out i j) s calls ++ stamps_of i j (after s calls)
  stamps_from_fresh calls = from_empty (λ q. q.stamps) _ _ (stamps_in_run i j calls s (queued, new.words))
