-- A card that a slot can work on: a well-formed record and lists of its size. What a queue of it is, and what keeps it so. Assumes nothing.
use Rattle.std.specs.Prelude.{◌≡◌, ℕ, ◌+◌, ◌*◌, ◌<◌, ◌≤◌, true, ◌≢◌, ◌⊎◌, List, length, ◌==◌, nat_le, nat_lt, slice_set, refl}
use Rattle.std.proofs.Common.{sym, ◌∙◌, mul-le-mul, mod-lt, arith, ltb-true, leb-true, eqb-true, lt-ltb, le-ltb, le-leb, eq-eqb}
use Rattle.std.proofs.Math.Logic.{inl, inr}
use Rattle.std.proofs.Math.ListN.{length-set}
use Rattle.std.proofs.Math.Seq.{get_or-set_same, get_or-set_other}
use borrow.Rule.Slice.PartMut.{put_mid}
use Rattle.masks.specs.Tests.{lt_or_ge, eq_or_ne, and_true, and_both, every_at, at_every}
use Rattle.card.specs.Limits.{Sizes, sizes_are, are_sizes}
use Rattle.queue.specs.Paper.{Ring, standing, stored, sent, queue_fits}
use Rattle.queue.specs.Steps.{is_stands}
use Rattle.matches.specs.Paper.{at}
use Rattle.card.specs.declared.Counters.{Counters}
use Rattle.slot.specs.Paper.{State, room, queues, queue_at, with_queue, counting, next_slot, queues_fit, well_formed}
use Rattle.slot.specs.Stretch.{stretch_in, apart, mid_length, put_length, mid_put, mid_other}

-- how many queues the card has
abbrev pub used : State → ℕ
used s = s.kept.card.m * s.kept.card.n

-- what refusal 7 asks of queue k
pub record Queue (u d k head count : ℕ) : Type 0 where
  pub head_in : k < u → head < d
  pub count_in : k < u → count ≤ d
  pub head_rest : u ≤ k → head ≡ 0
  pub count_rest : u ≤ k → count ≡ 0

pub record Ready (s : State) : Type 0 where
  pub sizes : Sizes s.kept.card.m s.kept.card.n s.kept.card.d
  pub heads_long : length s.kept.heads ≡ queues
  pub counts_long : length s.kept.counts ≡ queues
  pub cells_long : length s.cells ≡ room s.kept.card
  pub stamps_long : length s.stamps ≡ room s.kept.card
  pub queue : (k : ℕ) → k < queues → Queue (used s) s.kept.card.d k (at s.kept.heads k) (at s.kept.counts k)

-- ---- refusal 7 is not given exactly then

queue_is : (u d k h c : ℕ) → queue_fits u d k h c ≡ true → Queue u d k h c
queue_is u d k h c e =
    record {
      head_in = λ l. ltb-true h d (and_both (nat_lt h d) (nat_le c d) (rw (lt-ltb k u l) at e)).0;
      count_in = λ l. leb-true c d (and_both (nat_lt h d) (nat_le c d) (rw (lt-ltb k u l) at e)).1;
      head_rest = λ l. eqb-true h 0 (and_both (h == 0) (c == 0) (rw (le-ltb k u l) at e)).0;
      count_rest = λ l. eqb-true c 0 (and_both (h == 0) (c == 0) (rw (le-ltb k u l) at e)).1;
    }

is_queue : (u d k h c : ℕ) → Queue u d k h c → queue_fits u d k h c ≡ true
is_queue u d k h c q = go (lt_or_ge k u)
  where
    go : (k < u) ⊎ (u ≤ k) → queue_fits u d k h c ≡ true
    go (inl l) = rw (lt-ltb k u l, lt-ltb h d (q.head_in l), le-leb c d (q.count_in l))
    go (inr l) = rw (le-ltb k u l, eq-eqb h 0 (q.head_rest l), eq-eqb c 0 (q.count_rest l))

module _ (s : State) where
  pub ready : well_formed s.kept ≡ true → length s.kept.heads ≡ queues → length s.kept.counts ≡ queues
      → length s.cells ≡ room s.kept.card → length s.stamps ≡ room s.kept.card → Ready s
  unfolding well_formed queues_fit
  ready e hl cl a b =
      let h = and_both _ _ e in
      record {
        sizes = sizes_are _ _ _ h.0;
        heads_long = hl;
        counts_long = cl;
        cells_long = a;
        stamps_long = b;
        queue = λ k l. queue_is _ _ k _ _ (every_at queues _ h.1 k l);
      }

  pub well_formed_lem : Ready s → well_formed s.kept ≡ true
  unfolding well_formed queues_fit
  well_formed_lem r = and_true (are_sizes _ _ _ r.sizes) (at_every queues _ (λ k l. is_queue _ _ k _ _ (r.queue k l)))

-- ---- a queue of the card

module _ (s : State) (r : Ready s) where
  pub used_small : used s ≤ queues
  used_small = mul-le-mul r.sizes.ports.ins.high r.sizes.ports.outs.high

  pub room_small : room s.kept.card ≤ 65536
  room_small = mul-le-mul used_small r.sizes.deep.high

  module _ (k : ℕ) (l : k < used s) where
    pub stretch : k * s.kept.card.d + s.kept.card.d ≤ room s.kept.card
    stretch = stretch_in (used s) s.kept.card.d k l

    pub here : Queue (used s) s.kept.card.d k (at s.kept.heads k) (at s.kept.counts k)
    here = r.queue k (omega (arith, used_small))

    pub cells_deep : length (queue_at s k).cells ≡ s.kept.card.d
    unfolding queue_at
    cells_deep = mid_length (k * s.kept.card.d) s.kept.card.d s.cells (omega (arith, stretch, r.cells_long))

    pub stamps_deep : length (queue_at s k).stamps ≡ s.kept.card.d
    unfolding queue_at
    stamps_deep = mid_length (k * s.kept.card.d) s.kept.card.d s.stamps (omega (arith, stretch, r.stamps_long))

-- where queue k's head and count stand, and its places
pub record Here (s : State) (k : ℕ) : Type 0 where
  pub small : k < queues
  pub in_heads : k < length s.kept.heads
  pub in_counts : k < length s.kept.counts
  pub in_cells : k * s.kept.card.d + s.kept.card.d ≤ length s.cells
  pub in_stamps : k * s.kept.card.d + s.kept.card.d ≤ length s.stamps
  pub places : k * s.kept.card.d + s.kept.card.d ≤ 65536

pub here_is : (s : State) → Ready s → (k : ℕ) → k < used s → Here s k
here_is s r k l =
    let u = used_small s r in
    let p = stretch s r k l in
    let z = room_small s r in
    record {
      small = omega arith;
      in_heads = omega (arith, r.heads_long);
      in_counts = omega (arith, r.counts_long);
      in_cells = omega (arith, r.cells_long);
      in_stamps = omega (arith, r.stamps_long);
      places = omega arith;
    }

-- a queue of D places
pub record Sound (d : ℕ) (q : Ring) : Type 0 where
  pub head_in : q.head < d
  pub count_in : q.count ≤ d
  pub cells_deep : length q.cells ≡ d
  pub stamps_deep : length q.stamps ≡ d

pub sound : (s : State) → Ready s → (k : ℕ) → k < used s → Sound s.kept.card.d (queue_at s k)
unfolding queue_at
sound s r k l =
    record { head_in = (here s r k l).head_in l; count_in = (here s r k l).count_in l; cells_deep = cells_deep s r k l; stamps_deep = stamps_deep s r k l }

pub stands : (s : State) → Ready s → (q : Ring) → Sound s.kept.card.d q → standing q ≡ true
stands s r q o =
    is_stands _ _ _ _
    (record {
      places = rw o.cells_deep r.sizes.deep;
      level = o.cells_deep ∙ sym o.stamps_deep;
      head_in = rw o.cells_deep o.head_in;
      count_in = rw o.cells_deep o.count_in;
    })

pub stored_sound : (d cell slot : ℕ) (q : Ring) → Sound d q → q.count < d → Sound d (stored cell slot q)
stored_sound d cell slot q o l =
    record {
      head_in = o.head_in;
      count_in = omega arith;
      cells_deep = length-set q.cells _ cell ∙ o.cells_deep;
      stamps_deep = length-set q.stamps _ slot ∙ o.stamps_deep;
    }

pub sent_sound : (d : ℕ) (q : Ring) → Sound d q → Sound d (sent q)
sent_sound d q o =
    record {
      head_in = rw o.cells_deep (mod-lt (q.head + 1) (let h = o.head_in in omega arith));
      count_in = let h = o.count_in in omega arith;
      cells_deep = length-set q.cells _ 0 ∙ o.cells_deep;
      stamps_deep = length-set q.stamps _ 0 ∙ o.stamps_deep;
    }

-- ---- what keeps a card ready

set_at : (l : List ℕ) (k v j : ℕ) (P : ℕ → Type 0) → k < length l → (j ≡ k → P v) → (j ≢ k → P (at l j)) → P (at (slice_set l k v) j)
set_at l k v j P b h g = go (eq_or_ne j k)
  where
    go : (j ≡ k) ⊎ (j ≢ k) → P (at (slice_set l k v) j)
    go (inl e) = rw (e, get_or-set_same l k v 0 b) (h e)
    go (inr n) = rw (get_or-set_other l k j v 0 n) (g n)

module _ (s : State) (r : Ready s) where
  pub ready_with : (k : ℕ) → k < used s → (q : Ring) → Sound s.kept.card.d q → Ready (with_queue k q s)
  unfolding with_queue
  ready_with k l q o =
      record {
        sizes = r.sizes;
        heads_long = length-set s.kept.heads k q.head ∙ r.heads_long;
        counts_long = length-set s.kept.counts k q.count ∙ r.counts_long;
        cells_long = put_length (k * s.kept.card.d) s.kept.card.d s.cells q.cells (omega (arith, stretch s r k l, r.cells_long)) o.cells_deep ∙ r.cells_long;
        stamps_long = put_length (k * s.kept.card.d) s.kept.card.d s.stamps q.stamps (omega (arith, stretch s r k l, r.stamps_long)) o.stamps_deep ∙ r.stamps_long;
        queue = λ j b. queue j b;
      }
    where
      queue : (j : ℕ) → j < queues → Queue (used s) s.kept.card.d j (at (slice_set s.kept.heads k q.head) j) (at (slice_set s.kept.counts k q.count) j)
      queue j b =
          let n = used_small s r in
          let was = r.queue j b in
          record {
            head_in = λ g. set_at s.kept.heads k q.head j (λ (x : ℕ). x < s.kept.card.d) (omega (arith, r.heads_long)) (λ _. o.head_in) (λ _. was.head_in g);
            count_in = λ g. set_at s.kept.counts k q.count j (λ (x : ℕ). x ≤ s.kept.card.d) (omega (arith, r.counts_long)) (λ _. o.count_in) (λ _. was.count_in g);
            head_rest = λ g. set_at s.kept.heads k q.head j (λ (x : ℕ). x ≡ 0) (omega (arith, r.heads_long)) (λ e. absurd (omega arith)) (λ _. was.head_rest g);
            count_rest = λ g. set_at s.kept.counts k q.count j (λ (x : ℕ). x ≡ 0) (omega (arith, r.counts_long)) (λ e. absurd (omega arith)) (λ _. was.count_rest g);
          }

  pub ready_counting : (f : Counters → Counters) → Ready (counting f s)
  ready_counting f =
      record { sizes = r.sizes; heads_long = r.heads_long; counts_long = r.counts_long; cells_long = r.cells_long; stamps_long = r.stamps_long; queue = r.queue }

  pub ready_next : Ready (next_slot s)
  ready_next =
      record { sizes = r.sizes; heads_long = r.heads_long; counts_long = r.counts_long; cells_long = r.cells_long; stamps_long = r.stamps_long; queue = r.queue }

-- ---- a queue taken out, changed and put back

-- its count, and what stays
pub count_at : (s : State) (k : ℕ) → (queue_at s k).count ≡ at s.kept.counts k
unfolding queue_at
count_at s k = refl

pub with_card : (k : ℕ) (q : Ring) (s : State) → (with_queue k q s).kept.card ≡ s.kept.card
unfolding with_queue
with_card k q s = refl

pub with_slot : (k : ℕ) (q : Ring) (s : State) → (with_queue k q s).kept.slot ≡ s.kept.slot
unfolding with_queue
with_slot k q s = refl

-- as the code does it: the head and count set, and both stretches put back
pub put_back : (s : State) (k : ℕ) (q q' : Ring) → q ≡ q'
    → ◌≡◌ {A = State} (record {
      kept = record {
        card = s.kept.card;
        heads = slice_set s.kept.heads k q.head;
        counts = slice_set s.kept.counts k q.count;
        slot = s.kept.slot;
        counters = s.kept.counters;
      };
      cells = put_mid (k * s.kept.card.d) s.kept.card.d s.cells q.cells;
      stamps = put_mid (k * s.kept.card.d) s.kept.card.d s.stamps q.stamps;
    }) (with_queue k q' s)
unfolding with_queue
put_back s k q q' e = rw e

module _ (s : State) (r : Ready s) (k : ℕ) (l : k < used s) (q : Ring) (o : Sound s.kept.card.d q) where
  -- queue k is what was put there
  pub same_queue : queue_at (with_queue k q s) k ≡ q
  unfolding queue_at with_queue
  same_queue =
      let h = here_is s r k l in
      let d = s.kept.card.d in
      rw (
        get_or-set_same s.kept.heads k q.head 0 h.in_heads,
        get_or-set_same s.kept.counts k q.count 0 h.in_counts,
        mid_put (k * d) d s.cells q.cells h.in_cells o.cells_deep,
        mid_put (k * d) d s.stamps q.stamps h.in_stamps o.stamps_deep,
      )

  -- and every other queue is as it was
  pub other_queue : (j : ℕ) → j ≢ k → queue_at (with_queue k q s) j ≡ queue_at s j
  unfolding queue_at with_queue
  other_queue j n =
      let h = here_is s r k l in
      let d = s.kept.card.d in
      rw (
        get_or-set_other s.kept.heads k j q.head 0 n,
        get_or-set_other s.kept.counts k j q.count 0 n,
        mid_other (k * d) (j * d) d s.cells q.cells h.in_cells o.cells_deep (sides j n),
        mid_other (k * d) (j * d) d s.stamps q.stamps h.in_stamps o.stamps_deep (sides j n),
      )
    where
      sides : (j : ℕ) → j ≢ k → (j * s.kept.card.d + s.kept.card.d ≤ k * s.kept.card.d) ⊎ (k * s.kept.card.d + s.kept.card.d ≤ j * s.kept.card.d)
      sides j n = go (lt_or_ge j k)
        where
          go : (j < k) ⊎ (k ≤ j) → (j * s.kept.card.d + s.kept.card.d ≤ k * s.kept.card.d) ⊎ (k * s.kept.card.d + s.kept.card.d ≤ j * s.kept.card.d)
          go (inl a) = inl (apart s.kept.card.d j k a)
          go (inr b) = inr (apart s.kept.card.d k j (omega (arith, n)))
