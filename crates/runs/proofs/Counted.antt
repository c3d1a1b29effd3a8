-- The counters of the record, and its slot number, over one call: each grows by what arrivals and report give, modulo 2 ^ 32. Assumes nothing.
use Rattle.std.specs.Prelude.{◌≡◌, refl, ◌≢◌, Bool, true, false, ℕ, suc, ◌+◌, ◌%◌, ◌^◌, ◌<◌}
use Rattle.std.proofs.Math.Path.{ap}
use Rattle.std.proofs.Common.{◌∙◌, arith, ne_eqb}
use Rattle.masks.specs.Paper.{keep}
use Rattle.card.specs.Paper.{one_stored, one_dropped, one_departed}
use Rattle.queue.specs.Paper.{Ring, stored, sent}
use Rattle.card.specs.declared.Counters.{Counters}
use Rattle.slot.specs.Paper.{State, Stepped, queue_at, with_queue, accepted}
use Rattle.slot.specs.Ready.{Ready}
use Rattle.runs.specs.Paper.{Call, answer, offered_in, stored_in, dropped_in, departed_in, accepted_in}
use Rattle.runs.proofs.Kept.{refused, agreed, by_way, Way, agreed_state}
use Rattle.runs.proofs.Through.{StepsKeep, through}
use Rattle.runs.proofs.Sums.{balance, refused_nothing}

-- f counts g: "Counters run modulo 4,294,967,296"
pub record Counts (f : State → ℕ) (g : Call → Stepped → ℕ) : Type 0 where
  pub one : (s : State) → Ready s → (c : Call) → f s < 2 ^ 32 → f (answer s c).state ≡ (f s + g c (answer s c)) % 2 ^ 32

-- ---- a counter that grows by 1 at each stored arrival, each dropped one, each departure: at those of the three that are true

record Counter (f : Counters → ℕ) (x y z : Bool) : Type 0 where
  stores : (c : Counters) → f c < 2 ^ 32 → f (one_stored c) ≡ (f c + keep x 1) % 2 ^ 32
  drops : (c : Counters) → f c < 2 ^ 32 → f (one_dropped c) ≡ (f c + keep y 1) % 2 ^ 32
  sends : (c : Counters) → f c < 2 ^ 32 → f (one_departed c) ≡ (f c + keep z 1) % 2 ^ 32

with_counters : (k : ℕ) (q : Ring) (s : State) → (with_queue k q s).kept.counters ≡ s.kept.counters
unfolding with_queue
with_counters k q s = refl

keep_suc : (b : Bool) (n : ℕ) → keep b (suc n) ≡ keep b n + keep b 1
keep_suc true n = omega arith
keep_suc false n = refl

keep_none : (b : Bool) (n : ℕ) → n ≡ 0 → keep b n ≡ 0
keep_none true n e = e
keep_none false n e = refl

-- a step: the counter was p + t, and grows by w
grows : (p t w v v' : ℕ) → v ≡ (p + t) % 2 ^ 32 → (v < 2 ^ 32 → v' ≡ (v + w) % 2 ^ 32) → v' ≡ (p + (t + w)) % 2 ^ 32
grows p t w v v' e h = omega (arith, e, h (omega arith))

module _ (f : Counters → ℕ) (x y z : Bool) (o : Counter f x y z) where
  -- so much in all
  abbrev all : (n d g : ℕ) → ℕ
  all n d g = keep x n + (keep y d + keep z g)

  grows_so : (s : State) → f s.kept.counters < 2 ^ 32 → StepsKeep s (λ n d g u. f u.kept.counters ≡ (f s.kept.counters + all n d g) % 2 ^ 32)
  grows_so s b =
      record {
        begin = omega (arith, b, keep_none x 0 refl, keep_none y 0 refl, keep_none z 0 refl);
        store = λ n d g k cell u r l h e.
            let w : all (suc n) d g ≡ all n d g + keep x 1 = omega (arith, keep_suc x n) in
            let c = with_counters k (stored cell u.kept.slot (queue_at u k)) u in
            rw (w, c) (grows p (all n d g) (keep x 1) (f u.kept.counters) _ e (o.stores u.kept.counters));
        drop = λ n d g u e.
            let w : all n (suc d) g ≡ all n d g + keep y 1 = omega (arith, keep_suc y d) in
            rw w (grows p (all n d g) (keep y 1) (f u.kept.counters) _ e (o.drops u.kept.counters));
        send = λ n d g k u r l h e.
            let w : all n d (suc g) ≡ all n d g + keep z 1 = omega (arith, keep_suc z g) in
            let c = with_counters k (sent (queue_at u k)) u in
            rw (w, c) (grows p (all n d g) (keep z 1) (f u.kept.counters) _ e (o.sends u.kept.counters));
      }
    where
      p : ℕ
      p = f s.kept.counters

  -- what arrivals and report give
  abbrev given : Call → Stepped → ℕ
  given c r = all (stored_in c r) (dropped_in c r) (departed_in c r)

  module _ (s : State) (r : Ready s) (c : Call) (b : f s.kept.counters < 2 ^ 32) where
    agreed_grown : Way s c → f (agreed s c).state.kept.counters ≡ (f s.kept.counters + given c (agreed s c)) % 2 ^ 32
    agreed_grown w = ap (λ (t : State). f t.kept.counters) (agreed_state s c) ∙ (through s c w _ (grows_so s b)).holds

    refused_grown : (k : ℕ) → k ≢ 0 → f s.kept.counters ≡ (f s.kept.counters + given c (refused s k)) % 2 ^ 32
    refused_grown k d =
        let e = refused_nothing s c k d in
        omega (arith, b, keep_none x _ e.stored, keep_none y _ e.dropped, keep_none z _ e.departed)

    counted : f (answer s c).state.kept.counters ≡ (f s.kept.counters + given c (answer s c)) % 2 ^ 32
    counted = by_way s r c (λ t. f t.state.kept.counters ≡ (f s.kept.counters + given c t) % 2 ^ 32) agreed_grown refused_grown

  counts : (g : Call → Stepped → ℕ) → ((s : State) → Ready s → (c : Call) → g c (answer s c) ≡ given c (answer s c)) → Counts (λ s. f s.kept.counters) g
  counts g h = record { one = λ s r c b. rw (h s r c) (counted s r c b) }

-- ---- the four counters

pub offered_counts : Counts (λ s. s.kept.counters.offered) offered_in
offered_counts =
    counts (λ c. c.offered) true true false (record { stores = λ c b. refl; drops = λ c b. refl; sends = λ c b. omega arith })
    offered_in (λ s r c. omega (arith, (balance s r c).offered))

pub stored_counts : Counts (λ s. s.kept.counters.stored) stored_in
stored_counts =
    counts (λ c. c.stored) true false false (record { stores = λ c b. refl; drops = λ c b. omega arith; sends = λ c b. omega arith })
    stored_in (λ s r c. omega arith)

pub dropped_counts : Counts (λ s. s.kept.counters.dropped) dropped_in
dropped_counts =
    counts (λ c. c.dropped) false true false (record { stores = λ c b. omega arith; drops = λ c b. refl; sends = λ c b. omega arith })
    dropped_in (λ s r c. omega arith)

pub departed_counts : Counts (λ s. s.kept.counters.departed) departed_in
departed_counts =
    counts (λ c. c.departed) false false true (record { stores = λ c b. omega arith; drops = λ c b. omega arith; sends = λ c b. refl })
    departed_in (λ s r c. omega arith)

-- ---- "The slot number grows by 1, modulo the same"

module _ (s : State) (c : Call) where
  agreed_next : Way s c → (agreed s c).state.kept.slot ≡ (s.kept.slot + accepted_in c (agreed s c)) % 2 ^ 32
  unfolding accepted
  agreed_next w = ap (λ (x : ℕ). (x + 1) % 2 ^ 32) (w.leaving.slot ∙ w.arriving.slot)

  refused_same : s.kept.slot < 2 ^ 32 → (k : ℕ) → k ≢ 0 → s.kept.slot ≡ (s.kept.slot + accepted_in c (refused s k)) % 2 ^ 32
  refused_same b k d = rw (ne_eqb k 0 d) (omega (arith, b))

pub slot_counts : Counts (λ s. s.kept.slot) accepted_in
slot_counts = record { one = λ s r c b. by_way s r c (λ t. t.state.kept.slot ≡ (s.kept.slot + accepted_in c t) % 2 ^ 32) (agreed_next s c) (refused_same s c b) }
