-- What the departures of a slot do to one queue: queue (i, j) sends its oldest cell where input i's partner is j, and input i reports it. Assumes nothing.
use Rattle.std.specs.Prelude.{◌≡◌, refl, ◌⊎◌, ◌≢◌, Bool, true, false, cond, List, length, eqb}
use Rattle.std.proofs.Math.Path.{sym, ap, ap₂}
use Rattle.std.proofs.Common.{◌∙◌, inl, inr, arith, length-set, eq-eqb, ne_eqb}
use Prim.Native.Nat.{ℕ, zero, suc, ◌≤◌, ◌<◌}
use Rattle.std.proofs.Math.Seq.{get_or-set_same, get_or-set_other}
use Rattle.masks.specs.Tests.{eq_or_ne, clash}
use Rattle.card.specs.declared.Card.{Card}
use Rattle.card.specs.Paper.{ports, none, index, one_departed}
use Rattle.queue.specs.Paper.{Ring, Sending, sent, oldest, oldest_stamp, wait_of}
use Rattle.matches.specs.Paper.{at, partner}
use Rattle.matches.proofs.Lists.{length_tab}
use Rattle.slot.specs.Paper.{State, Leaving, queue_at, with_queue, send_from, send_one, send_all, unsent, left}
use Rattle.slot.specs.Ready.{Ready, used, sound, sent_sound, count_at, same_queue, other_queue}
use Rattle.slot.specs.Sending.{Partners, sends, one_none, one_some, Along, all_keeps}
use Rattle.runs.proofs.Turns.{counting_queue, here_in, by_partner, before, since, turn_apart}

-- q' is q less its oldest cell where the test t holds, and that cell and its wait are what is reported
pub record Gives (t : Bool) (slot : ℕ) (q q' : Ring) (cell wait : ℕ) : Type 0 where
  pub becomes : q' ≡ cond t (sent q) q
  pub some : t ≡ true → 0 < q.count
  pub cell_is : t ≡ true → cell ≡ oldest q
  pub wait_is : t ≡ true → wait ≡ wait_of slot (oldest_stamp q)

pub no_send : (t : Bool) (slot : ℕ) (q q' : Ring) (cell wait : ℕ) → t ≡ false → q' ≡ q → Gives t slot q q' cell wait
no_send t slot q q' cell wait e h = rw e (record { becomes = h; some = λ x. clash x refl; cell_is = λ x. clash x refl; wait_is = λ x. clash x refl })

-- what an input's turn can change: queue k, and what input i reports
seen : (i k : ℕ) → Leaving → Sending
seen i k l = record { ring = queue_at l.state k; cell = at l.cells i; wait = at l.waits i }

-- as many reports as inputs
record Long (l : Leaving) : Type 0 where
  cells : length l.cells ≡ ports
  waits : length l.waits ≡ ports

one_long : (i j : ℕ) (l : Leaving) → Long l → Long (send_one i j l)
unfolding send_from
one_long i j l h = by_partner i j l Long (λ e. h) (λ d. record { cells = length-set l.cells i _ ∙ h.cells; waits = length-set l.waits i _ ∙ h.waits })

-- ---- one queue sends

module _ (l : Leaving) (r : Ready l.state) (i k : ℕ) (h : k < used l.state) where
  same_sent : i < ports → Long l
      → seen i k (send_from i k l) ≡ (let q = queue_at l.state k in record { ring = sent q; cell = oldest q; wait = wait_of l.state.kept.slot (oldest_stamp q) })
  unfolding seen send_from
  same_sent p w =
      let q = queue_at l.state k in
      rw (
        counting_queue one_departed (with_queue k (sent q) l.state) k,
        same_queue l.state r k h (sent q) (sent_sound _ q (sound l.state r k h)),
        get_or-set_same l.cells i (oldest q) 0 (omega (arith, w.cells)),
        get_or-set_same l.waits i (wait_of l.state.kept.slot (oldest_stamp q)) 0 (omega (arith, w.waits)),
      )

  -- at another queue
  missed : (j : ℕ) → j ≢ k → queue_at (send_from i k l).state j ≡ queue_at l.state j
  unfolding send_from
  missed j d =
      let q = queue_at l.state k in
      counting_queue one_departed (with_queue k (sent q) l.state) j ∙ other_queue l.state r k h (sent q) (sent_sound _ q (sound l.state r k h)) j d

  -- and another input
  other : (n j : ℕ) → n ≢ i → j ≢ k → seen n j (send_from i k l) ≡ seen n j l
  unfolding seen send_from
  other n j e d =
      let q = queue_at l.state k in
      rw (missed j d, get_or-set_other l.cells i n (oldest q) 0 e, get_or-set_other l.waits i n (wait_of l.state.kept.slot (oldest_stamp q)) 0 e)

-- ---- all departures, and queue (i, j)

module _ (s : State) (r : Ready s) (p : List ℕ) (w : Partners s.kept.card s.kept.counts p) where
  leaving : ℕ → Leaving
  leaving n = send_all p n (unsent s)

  along : (n : ℕ) → n ≤ s.kept.card.m → Along s n (leaving n)
  unfolding leaving
  along n l = all_keeps s r p w n l

  long : (n : ℕ) → Long (leaving n)
  unfolding leaving send_all
  long zero = record { cells = length_tab ports (λ i. 0); waits = length_tab ports (λ i. 0) }
  long (suc n) = one_long n (partner p n) (send_all p n (unsent s)) (long n)

  -- input n's turn, matched and not
  turn_none : (n : ℕ) → partner p n ≡ none → leaving (suc n) ≡ leaving n
  unfolding leaving send_all
  turn_none n e = sym (one_none n (partner p n) (send_all p n (unsent s)) e)

  turn_some : (n : ℕ) → n ≤ s.kept.card.m → partner p n ≢ none → leaving (suc n) ≡ send_from n (index s.kept.card n (partner p n)) (leaving n)
  unfolding leaving send_all
  turn_some n l d =
      sym (one_some n (partner p n) (index s.kept.card n (partner p n)) (send_all p n (unsent s)) _ d
      (ap (λ (c : Card). index c n (partner p n)) (sym (along n l).card)) refl)

  -- its partner is an output of the card
  sends_in : (n : ℕ) → n < s.kept.card.m → partner p n ≢ none → partner p n < s.kept.card.n
  sends_in n l d = (sends s.kept.card s.kept.counts n (partner p n) (w.all n l) d).0

  module _ (i j : ℕ) (li : i < s.kept.card.m) (lj : j < s.kept.card.n) where
    k : ℕ
    k = index s.kept.card i j

    -- another input's turn
    others : (n : ℕ) → n < s.kept.card.m → n ≢ i → seen i k (leaving (suc n)) ≡ seen i k (leaving n)
    unfolding k
    others n l d =
        turn_apart _ _ (partner p) sends_in (λ x. seen i k (leaving x)) i j n lj l (λ e. ap (seen i k) (turn_none n e))
        (λ e x.
        ap (seen i k) (turn_some n (omega arith) e)
        ∙ other (leaving n) (along n (omega arith)).ready n _ (here_in s (leaving n).state (along n (omega arith)).card n (partner p n) l (sends_in n l e)) i k (λ z. d (sym z)) x)
        (inl d)

    ended : seen i k (leaving s.kept.card.m) ≡ seen i k (leaving (suc i))
    ended = since (λ n. seen i k (leaving n)) s.kept.card.m i others s.kept.card.m li (omega arith)

    begins : queue_at (leaving i).state k ≡ queue_at s k
    unfolding seen leaving send_all
    begins = ap (λ (x : Sending). x.ring) (before (λ n. seen i k (leaving n)) s.kept.card.m i others (omega arith) i (omega arith))

    -- its own turn: its partner is j, or not
    met : partner p i ≡ j
        → seen i k (leaving s.kept.card.m) ≡ (let q = queue_at s k in record { ring = sent q; cell = oldest q; wait = wait_of s.kept.slot (oldest_stamp q) })
    unfolding k
    met e =
        let u = r.sizes.ports.ins.high in
        let v = r.sizes.ports.outs.high in
        let a = along i (omega arith) in
        ended
        ∙ ap (seen i k) (turn_some i (omega arith) (λ x. absurd (omega arith)) ∙ ap (λ (x : ℕ). send_from i (index s.kept.card i x) (leaving i)) e)
        ∙ same_sent (leaving i) a.ready i k (here_in s (leaving i).state a.card i j li lj) (omega arith) (long i)
        ∙ ap₂ (λ (q : Ring) (x : ℕ). record { ring = sent q; cell = oldest q; wait = wait_of x (oldest_stamp q) }) begins a.slot

    unmet : partner p i ≢ j → queue_at (leaving s.kept.card.m).state k ≡ queue_at s k
    unfolding k seen
    unmet d =
        ap (λ (x : Sending). x.ring) ended
        ∙ turn_apart _ _ (partner p) sends_in (λ x. queue_at (leaving x).state k) i j i lj li (λ e. ap (λ (l : Leaving). queue_at l.state k) (turn_none i e))
        (λ e x.
        ap (λ (l : Leaving). queue_at l.state k) (turn_some i (omega arith) e)
        ∙ missed (leaving i) (along i (omega arith)).ready i _ (here_in s (leaving i).state (along i (omega arith)).card i (partner p i) li (sends_in i li e)) k x)
        (inr d)
        ∙ begins

    -- there is a cell to send
    waits_there : partner p i ≡ j → 0 < (queue_at s k).count
    unfolding k
    waits_there e =
        let v = r.sizes.ports.outs.high in
        rw (count_at s (index s.kept.card i j), ← e) (sends s.kept.card s.kept.counts i (partner p i) (w.all i li) (λ x. absurd (omega arith))).1

    -- "Each matched queue sends its oldest cell .. Reported are partner, cell and wait"
    pub departs_at : Gives (eqb (partner p i) j) s.kept.slot (queue_at s (index s.kept.card i j)) (queue_at (left s p).state (index s.kept.card i j))
        (at (left s p).cells i) (at (left s p).waits i)
    unfolding leaving seen k
    departs_at = go (eq_or_ne (partner p i) j)
      where
        ends : Leaving
        ends = leaving s.kept.card.m

        go : (partner p i ≡ j) ⊎ (partner p i ≢ j)
            → Gives (eqb (partner p i) j) s.kept.slot (queue_at s k) (queue_at ends.state k) (at ends.cells i) (at ends.waits i)
        go (inl e) =
            let m = met e in
            rw (eq-eqb _ _ e)
            (record { becomes = ap (λ (x : Sending). x.ring) m; some = λ _. waits_there e; cell_is = λ _. ap (λ (x : Sending). x.cell) m; wait_is = λ _. ap (λ (x : Sending). x.wait) m })
        go (inr d) = no_send _ _ _ _ _ _ (ne_eqb _ _ d) (unmet d)
