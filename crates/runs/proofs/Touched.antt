-- What one call does to one queue: it may store a cell there, and then send one; and a queue that it does neither to stays as it was. Assumes nothing.
use Rattle.std.specs.Prelude.{◌≡◌, refl, ◌≢◌, Bool, false, cond, ℕ, ◌<◌, eqb}
use Rattle.std.proofs.Common.{sym, ap, ◌∙◌, arith, ne_eqb}
use Rattle.std.proofs.Math.Path.{subst}
use Rattle.std.proofs.Math.Bool.{and-false}
use Rattle.card.specs.declared.Card.{Card}
use Rattle.card.specs.Paper.{output_at, cell_at, index}
use Rattle.queue.specs.Paper.{Ring, stored, sent}
use Rattle.matches.specs.Paper.{at, partner}
use Rattle.slot.specs.Paper.{State, Stepped, queue_at, left, accepted}
use Rattle.slot.specs.Stretch.{index_in}
use Rattle.slot.specs.Ready.{Ready, Sound, sound}
use Rattle.runs.specs.Paper.{Call, answer, taken, stores_at, sends_at}
use Rattle.runs.proofs.Kept.{refused, agreed, silent_partner, by_way, reached, partners_of, Way, answer_keeps}
use Rattle.runs.proofs.Arrived.{Stores, no_store, arrives_at}
use Rattle.runs.proofs.Departed.{Gives, no_send, departs_at}

-- ---- what one call does to queue (i, j): it may store a cell, and then send one

-- a card that a slot can work on, and a queue of it
pub record Queued (i j : ℕ) (s : State) : Type 0 where
  pub ready : Ready s
  pub input : i < s.kept.card.m
  pub output : j < s.kept.card.n

pub record Slotted (i j : ℕ) (s : State) (c : Call) (r : Stepped) : Type 0 where
  pub between : Ring
  pub was : Sound s.kept.card.d (queue_at s (index s.kept.card i j))
  pub full : Sound s.kept.card.d between
  pub stores : Stores (stores_at i j c r) (cell_at c.arrivals i) s.kept.slot s.kept.card.d (queue_at s (index s.kept.card i j)) between
  pub sends : Gives (sends_at i j r) s.kept.slot between (queue_at r.state (index s.kept.card i j)) (at r.report.cells i) (at r.report.waits i)

module _ (i j : ℕ) (s : State) (c : Call) (q : Queued i j s) where
  queue_sound : Sound s.kept.card.d (queue_at s (index s.kept.card i j))
  queue_sound = sound s q.ready _ (index_in _ _ i j q.input q.output)

  refused_slotted : (k : ℕ) → k ≢ 0 → Slotted i j s c (refused s k)
  refused_slotted k d =
      let h = q.ready.sizes.ports.outs.high in
      let l = q.output in
      let e : stores_at i j c (refused s k) ≡ false = rw (ne_eqb k 0 d) refl in
      record {
        between = queue_at s (index s.kept.card i j);
        was = queue_sound;
        full = queue_sound;
        stores = no_store _ _ _ _ _ _ e refl;
        sends = no_send _ _ _ _ _ _ (ne_eqb _ j (λ e. absurd (omega (arith, silent_partner i)))) refl;
      }

  agreed_slotted : Way s c → Slotted i j s c (agreed s c)
  unfolding accepted queue_at
  agreed_slotted w =
      let t = reached s c in
      let p = partners_of s c in
      let l = left t p in
      let k = index s.kept.card i j in
      let same = w.arriving.card in
      let mi = subst (λ (x : Card). i < x.m) (sym same) q.input in
      let nj = subst (λ (x : Card). j < x.n) (sym same) q.output in
      record {
        between = queue_at t k;
        was = queue_sound;
        full = subst (λ (x : Card). Sound x.d (queue_at t (index x i j))) same (sound t w.arriving.ready _ (index_in _ _ i j mi nj));
        stores = arrives_at s w.fits.ready c.arrivals w.fits.fit_arrivals i j q.input q.output;
        sends =
            subst (λ (x : ℕ). Gives (eqb (partner p i) j) x (queue_at t k) (queue_at l.state k) (at l.cells i) (at l.waits i)) w.arriving.slot
            (subst (λ (x : Card). Gives (eqb (partner p i) j) t.kept.slot (queue_at t (index x i j)) (queue_at l.state (index x i j)) (at l.cells i) (at l.waits i)) same
            (departs_at t w.arriving.ready p w.partners i j mi nj));
      }

-- ---- any call

module _ (i j : ℕ) where
  pub slotted : (s : State) (c : Call) → Queued i j s → Slotted i j s c (answer s c)
  slotted s c q = by_way s q.ready c (Slotted i j s c) (agreed_slotted i j s c q) (refused_slotted i j s c q)

  pub queued_keeps : (s : State) (c : Call) → Queued i j s → Queued i j (answer s c).state
  queued_keeps s c p =
      let k = answer_keeps s p.ready c in
      record { ready = k.ready; input = subst (λ (x : Card). i < x.m) (sym k.card) p.input; output = subst (λ (x : Card). j < x.n) (sym k.card) p.output }

  -- "stored at place (head + count) mod D"; "its place is set to 0 in both lists": other queues' cells stay where they are. A queue that input i's arrival is
  -- not for, and that is not matched, has its head, its count and every place of both lists as they were
  pub others_stay : (s : State) (c : Call) → Queued i j s → output_at c.arrivals i ≢ j → partner (answer s c).report.partners i ≢ j
      → queue_at (answer s c).state (index s.kept.card i j) ≡ queue_at s (index s.kept.card i j)
  others_stay s c p d e =
      let r = answer s c in
      let w = slotted s c p in
      let q = queue_at s (index s.kept.card i j) in
      let z : stores_at i j c r ≡ false = rw (ne_eqb (output_at c.arrivals i) j d) (and-false (taken r)) in
      w.sends.becomes
      ∙ ap (λ (t : Bool). cond t (sent w.between) w.between) (ne_eqb _ j e)
      ∙ w.stores.becomes
      ∙ ap (λ (t : Bool). cond t (stored (cell_at c.arrivals i) s.kept.slot q) q) z
