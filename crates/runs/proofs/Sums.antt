-- The sums of one slot: what is offered is stored or dropped, and what is stored departs or waits. Whole numbers, and a refused call adds nothing.
-- Assumes nothing.
use Rattle.std.specs.Prelude.{◌≡◌, refl, ◌≢◌, ℕ, ◌+◌, ◌<◌, set}
use Rattle.std.proofs.Common.{ap, arith, get_or-set_same, get_or-set_other, eq-eqb, ne_eqb}
use Rattle.masks.specs.Sum.{sum_change, sum_zero}
use Rattle.masks.proofs.Laws.{bit_of_zero}
use Rattle.card.specs.Paper.{ports, none, one_stored, one_dropped, one_departed}
use Rattle.queue.specs.Paper.{Ring, stored, sent}
use Rattle.matches.specs.Paper.{at}
use Rattle.card.specs.declared.Counters.{Counters}
use Rattle.slot.specs.Paper.{State, Stepped, queue_at, with_queue, counting, next_slot, silent}
use Rattle.slot.specs.Ready.{Ready, used, here_is, count_at}
use Rattle.runs.specs.Paper.{Call, answer, offered_in, stored_in, dropped_in, departed_in, waiting}
use Rattle.runs.proofs.Kept.{refused, agreed, silent_partner, by_way, Way, gone, agreed_state}
use Rattle.runs.proofs.Through.{StepsKeep, through}

-- ---- the cells that wait, when queue k changes

waiting_with : (u : State) → Ready u → (k : ℕ) → k < used u → (q : Ring) → waiting (with_queue k q u) + (queue_at u k).count ≡ waiting u + q.count
unfolding waiting with_queue queue_at
waiting_with u r k l q =
    omega (
      arith,
      sum_change (used u) (λ j. at (set u.kept.counts k q.count) j) (λ j. at u.kept.counts j) k l
          (λ j _ n. get_or-set_other u.kept.counts k j q.count 0 n),
      get_or-set_same u.kept.counts k q.count 0 (here_is u r k l).in_counts,
    )

waiting_counting : (u : State) (f : Counters → Counters) → waiting (counting f u) ≡ waiting u
unfolding waiting
waiting_counting u f = refl

waiting_next : (u : State) → waiting (next_slot u) ≡ waiting u
unfolding waiting
waiting_next u = refl

-- ---- one slot

pub record Balance (s : State) (c : Call) (r : Stepped) : Type 0 where
  pub offered : offered_in c r ≡ stored_in c r + dropped_in c r
  pub stored : waiting s + stored_in c r ≡ departed_in c r + waiting r.state

balances : (s : State) → StepsKeep s (λ n d g u. waiting s + n ≡ g + waiting u)
balances s =
    record {
      begin = omega arith;
      store = λ n d g k cell u r l h e. let q = queue_at u k in
          omega (arith, e, waiting_counting (with_queue k (stored cell u.kept.slot q) u) one_stored, waiting_with u r k l (stored cell u.kept.slot q));
      drop = λ n d g u e. omega (arith, e, waiting_counting u one_dropped);
      send = λ n d g k u r l h e. let q = queue_at u k in
          omega (arith, e, waiting_counting (with_queue k (sent q) u) one_departed, waiting_with u r k l (sent q), count_at u k);
    }

agreed_balance : (s : State) (c : Call) → Way s c → Balance s c (agreed s c)
agreed_balance s c w =
    let e = through s c w _ (balances s) in
    record { offered = e.split; stored = omega (arith, e.holds, ap waiting (agreed_state s c), waiting_next (gone s c)) }

-- ---- a refused call: "a refused call in between adds nothing"

pub record Nothing (s : State) (c : Call) (r : Stepped) : Type 0 where
  pub state : r.state ≡ s
  pub offered : offered_in c r ≡ 0
  pub stored : stored_in c r ≡ 0
  pub dropped : dropped_in c r ≡ 0
  pub departed : departed_in c r ≡ 0

pub refused_nothing : (s : State) (c : Call) (k : ℕ) → k ≢ 0 → Nothing s c (refused s k)
unfolding silent
refused_nothing s c k d =
    record {
      state = refl;
      offered = rw (ne_eqb k 0 d) refl;
      stored = rw (ne_eqb k 0 d) refl;
      dropped = sum_zero ports _ (λ i _. bit_of_zero i);
      departed = sum_zero ports _ (λ i _. rw (eq-eqb _ none (silent_partner i)) refl);
    }

-- ---- "offered ≡ stored + dropped and stored ≡ departed + waiting", of one call from any state that a slot can work on

nothing_balance : (s : State) (c : Call) (k : ℕ) → k ≢ 0 → Balance s c (refused s k)
nothing_balance s c k d = let e = refused_nothing s c k d in record { offered = omega (arith, e.offered, e.stored, e.dropped); stored = omega (arith, e.stored, e.departed) }

pub balance : (s : State) → Ready s → (c : Call) → Balance s c (answer s c)
balance s r c = by_way s r c (Balance s c) (agreed_balance s c) (nothing_balance s c)
