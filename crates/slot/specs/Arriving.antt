-- The arrivals of a slot: each way out of a step as a law about the definition, and what a step keeps. Assumes nothing.
use Rattle.std.specs.Prelude.{◌≡◌, ℕ, zero, suc, ◌+◌, ◌*◌, ◌^◌, ◌<◌, ◌≤◌, Bool, true, false, cond, ◌&&◌, ◌⊎◌, List, ◌==◌, ◌≢◌, nat_lt, slice_set, refl}
use Rattle.std.proofs.Common.{sym, ap, ◌∙◌, subst, inl, inr, ⊎_elim, arith, ltb-true, eqb-true, lt-ltb, le-ltb, eq-eqb, ne_eqb}
use Rattle.std.proofs.lemmas.List.{set-get_or}
use borrow.Rule.Slice.PartMut.{mid_of, put_mid}
use Rattle.masks.specs.Tests.{lt_or_ge, and_both, every_at}
use Rattle.card.specs.declared.Card.{Card}
use Rattle.card.specs.declared.Arrivals.{Arrivals}
use Rattle.card.specs.Paper.{ports, none, output_at, cell_at, fits_at, arrivals_fit, index, one_stored, one_dropped}
use Rattle.queue.specs.declared.Queue.{Queue}
use Rattle.queue.specs.Paper.{Ring, ring_of, stored, store}
use Rattle.queue.specs.Steps.{store_room}
use Rattle.matches.specs.Paper.{at}
use Rattle.slot.specs.declared.Record.{Record}
use Rattle.slot.specs.Paper.{State, Taking, queue_at, with_queue, counting, take_in, take_one, take_all, begun}
use Rattle.slot.specs.Answers.{state_of, taking_of}
use Rattle.slot.specs.Stretch.{index_in}
use Rattle.slot.specs.Ready.{Ready, used, sound, stands, stored_sound, ready_with, ready_counting, put_back, count_at, with_card, with_slot}

-- an output of the card, or none
abbrev pub Wanted : (n j : ℕ) → Type 0
Wanted n j = (j ≡ none) ⊎ (j < n)

pub wants : {n j : ℕ} → Wanted n j → (j ≢ none) → j < n
wants w p = ⊎_elim (λ e. absurd (p e)) (λ l. l) w

-- what the arrivals that fit are for
pub wanted : (m n : ℕ) (a : Arrivals) → arrivals_fit m n a ≡ true → (i : ℕ) → i < ports → Wanted n (output_at a i)
unfolding arrivals_fit
wanted m n a e i l = go (output_at a i == none) refl (every_at ports (fits_at m n a) e i l)
  where
    go : (t : Bool) → (output_at a i == none) ≡ t → cond t (cell_at a i == 0) (nat_lt i m && nat_lt (output_at a i) n) ≡ true → Wanted n (output_at a i)
    go true x e = inl (eqb-true _ _ x)
    go false x e = inr (ltb-true _ _ (and_both (nat_lt i m) (nat_lt (output_at a i) n) e).1)

-- ---- one arrival for queue k

pub record Into (t : Taking) (i k : ℕ) : Type 0 where
  pub ready : Ready t.state
  pub input : i < ports
  pub here : k < used t.state
  pub low : t.dropped < 2 ^ i

module _ (r : Record) (cells stamps : List ℕ) where
  pub in_full : (i k cell d : ℕ) → r.card.d ≤ at r.counts k
      → taking_of (record r { counters = one_dropped r.counters }) (d + 2 ^ i) cells stamps ≡ take_in i k cell (taking_of r d cells stamps)
  unfolding take_in
  in_full i k cell d h = rw (le-ltb (at r.counts k) r.card.d h)

  -- w is D, as the code has it
  pub in_room : (i k cell d w : ℕ) (next : Queue) (cs ss : List ℕ)
      → Into (begun (state_of r cells stamps)) i k → at r.counts k < r.card.d → w ≡ r.card.d
      → ring_of next cs ss ≡ store cell r.slot (ring_of (record { head = at r.heads k; count = at r.counts k }) (mid_of (k * r.card.d) w cells) (mid_of (k * r.card.d) w stamps))
      → taking_of (record r { counts = slice_set r.counts k next.count; counters = one_stored r.counters }) d (put_mid (k * r.card.d) w cells cs) (put_mid (k * r.card.d) w stamps ss)
      ≡ take_in i k cell (taking_of r d cells stamps)
  unfolding take_in queue_at
  in_room i k cell d w next cs ss g l e h =
      rw (lt-ltb (at r.counts k) r.card.d l, e)
      (ap (λ (x : State). record { state = counting one_stored x; dropped = d }) (same_heads ∙ put_back s k (ring_of next cs ss) (stored cell r.slot (queue_at s k)) same))
    where
      s : State
      s = state_of r cells stamps

      same : ring_of next cs ss ≡ stored cell r.slot (queue_at s k)
      same = (rw e at h) ∙ sym (store_room cell r.slot (queue_at s k) (stands s g.ready (queue_at s k) (sound s g.ready k g.here)) (rw (sound s g.ready k g.here).cells_deep l))

      put : List ℕ → State
      put heads =
          state_of (record r { heads = heads; counts = slice_set r.counts k next.count }) (put_mid (k * r.card.d) r.card.d cells cs) (put_mid (k * r.card.d) r.card.d stamps ss)

      same_heads : put r.heads ≡ put (slice_set r.heads k next.head)
      same_heads = ap put (sym (ap (slice_set r.heads k) (ap (λ (q : Ring). q.head) same) ∙ set-get_or r.heads k 0))

-- ---- input i's arrival

pub record Bound (t : Taking) (i j : ℕ) : Type 0 where
  pub ready : Ready t.state
  pub input : i < t.state.kept.card.m
  pub output : Wanted t.state.kept.card.n j
  pub low : t.dropped < 2 ^ i

pub bound_into : (t : Taking) (i j : ℕ) → Bound t i j → (j ≢ none) → Into t i (index t.state.kept.card i j)
bound_into t i j b d =
    record {
      ready = b.ready;
      input = omega (arith, b.input, b.ready.sizes.ports.ins.high);
      here = index_in _ _ i j b.input (wants b.output d);
      low = b.low;
    }

pub one_none : (i j cell : ℕ) (t : Taking) → j ≡ none → t ≡ take_one i j cell t
unfolding take_one
one_none i j cell t e = rw (eq-eqb j none e)

pub one_some : (i j k cell : ℕ) (t r : Taking) → (j ≢ none) → k ≡ index t.state.kept.card i j → r ≡ take_in i k cell t → r ≡ take_one i j cell t
unfolding take_one
one_some i j k cell t r d e h = rw (ne_eqb j none d, ← e) h

-- ---- what the arrivals keep: s before them, t after those of the first i inputs

pub record Along (s : State) (i : ℕ) (t : Taking) : Type 0 where
  pub ready : Ready t.state
  pub card : t.state.kept.card ≡ s.kept.card
  pub slot : t.state.kept.slot ≡ s.kept.slot
  pub low : t.dropped < 2 ^ i

pub along_begun : (s : State) → Ready s → Along s 0 (begun s)
along_begun s r = record { ready = r; card = refl; slot = refl; low = omega arith }

into_keeps : (s : State) (i k cell : ℕ) (t : Taking) → Along s i t → k < used t.state → Along s (suc i) (take_in i k cell t)
unfolding take_in
into_keeps s i k cell t a l = go (lt_or_ge (at t.state.kept.counts k) t.state.kept.card.d)
  where
    r : State
    r = t.state

    kept : (at r.kept.counts k < r.kept.card.d) → Along s (suc i) (record { state = counting one_stored (with_queue k (stored cell r.kept.slot (queue_at r k)) r); dropped = t.dropped })
    kept h =
        record {
          ready = ready_counting _ (ready_with r a.ready k l _ (stored_sound _ cell r.kept.slot _ (sound r a.ready k l) (rw (count_at r k) h))) one_stored;
          card = with_card k _ r ∙ a.card;
          slot = with_slot k _ r ∙ a.slot;
          low = let p = a.low in omega arith;
        }

    go : (at r.kept.counts k < r.kept.card.d) ⊎ (r.kept.card.d ≤ at r.kept.counts k)
        → Along s (suc i) (cond (nat_lt (at r.kept.counts k) r.kept.card.d)
        (record { state = counting one_stored (with_queue k (stored cell r.kept.slot (queue_at r k)) r); dropped = t.dropped })
        (record { state = counting one_dropped r; dropped = t.dropped + 2 ^ i }))
    go (inl h) = rw (lt-ltb _ _ h) (kept h)
    go (inr h) = rw (le-ltb _ _ h) (record { ready = ready_counting r a.ready one_dropped; card = a.card; slot = a.slot; low = let p = a.low in omega arith })

pub one_keeps : (s : State) (i j cell : ℕ) (t : Taking) → Along s i t → i < s.kept.card.m → Wanted s.kept.card.n j → Along s (suc i) (take_one i j cell t)
unfolding take_one
one_keeps s i j cell t a l (inl e) = rw (eq-eqb j none e) (record { ready = a.ready; card = a.card; slot = a.slot; low = let p = a.low in omega arith })
one_keeps s i j cell t a l (inr h) =
    rw (ne_eqb j none (λ e. absurd (omega (arith, small))))
    (into_keeps s i _ cell t a (index_in _ _ i j (subst (λ (c : Card). i < c.m) (sym a.card) l) (subst (λ (c : Card). j < c.n) (sym a.card) h)))
  where
    small : j < 32
    small = let q = a.ready.sizes.ports.outs.high in let p = subst (λ (c : Card). j < c.n) (sym a.card) h in omega arith

module _ (s : State) (r : Ready s) (a : Arrivals) (f : arrivals_fit s.kept.card.m s.kept.card.n a ≡ true) where
  pub all_keeps : (i : ℕ) → i ≤ s.kept.card.m → Along s i (take_all a i (begun s))
  unfolding take_all
  all_keeps zero l = along_begun s r
  all_keeps (suc i) l =
      let high = r.sizes.ports.ins.high in
      one_keeps s i (output_at a i) (cell_at a i) (take_all a i (begun s)) (all_keeps i (omega arith)) (omega arith) (wanted _ _ a f i (omega arith))
