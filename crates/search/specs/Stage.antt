-- Breadth first from one of mine without a partner: what holds at every stage, and that each step keeps it. Assumes nothing.
use Rattle.std.specs.Prelude.{◌≡◌, List, ℕ, zero, suc, ◌+◌, ◌≤◌, ◌<◌}
use Rattle.std.proofs.Common.{sym, ap, ◌∙◌, arith}
use Rattle.std.proofs.Math.Decide.{ℕ_discrete}
use Rattle.masks.specs.Paper.{bit, sum, With}
use Rattle.masks.specs.Sum.{sum_zero}
use Rattle.masks.proofs.Laws.{bit_lt, bit_of_zero}
use Rattle.masks.proofs.Counting.{count_with, count_le}
use Rattle.matches.specs.Paper.{at}
use Rattle.search.specs.Pair.{Put, Pairs}

-- 1 where x of mine requests j of theirs
abbrev pub wants : List ℕ → ℕ → ℕ → ℕ
wants rows x j = bit (at rows x) j

-- the set S of inputs has u, and the holder of each output that a member requests
pub record Closed (E : ℕ → ℕ → ℕ) (t : ℕ → ℕ) (u S : ℕ) : Type 0 where
  pub root : bit S u ≡ 1
  pub shut : (x j : ℕ) → x < 32 → j < 32 → bit S x ≡ 1 → E x j ≡ 1 → (t j < 32) × (bit S (t j) ≡ 1)

-- the inputs q 0 .. q h, each found by the one at f: distinct, and the finder requests what the found one has
pub record Trail (E : ℕ → ℕ → ℕ) (m q f : ℕ → ℕ) (n : ℕ) : Type 0 where
  pub within : (k : ℕ) → k < n → q k < 32
  pub apart : (i k : ℕ) → i < k → k < n → q i ≡ q k → ⊥
  pub less : (k : ℕ) → 0 < k → k < n → f k < k
  pub has : (k : ℕ) → 0 < k → k < n → m (q k) < 32
  pub asked : (k : ℕ) → 0 < k → k < n → E (q (f k)) (m (q k)) ≡ 1

pub record Stage (E : ℕ → ℕ → ℕ) (m t q f : ℕ → ℕ) (n a outs ins : ℕ) : Type 0 where
  pub some : 0 < n
  pub order : a ≤ n
  pub trail : Trail E m q f n
  pub member : (k : ℕ) → k < n → bit ins (q k) ≡ 1
  pub listed : (x : ℕ) → x < 32 → bit ins x ≡ 1 → (k : ℕ) × (k < n) × (q k ≡ x)
  pub seen : (x : ℕ) → x < 32 → bit ins x ≡ 1 → m x < 32 → bit outs (m x) ≡ 1
  pub held : (j : ℕ) → j < 32 → bit outs j ≡ 1 → (t j < 32) × (bit ins (t j) ≡ 1)
  pub done : (k j : ℕ) → k < a → j < 32 → E (q k) j ≡ 1 → bit outs j ≡ 1
  pub count : sum 32 (bit ins) ≡ n

-- a set of numbers below n that lacks one has fewer than n
pub count_lt : (n m j : ℕ) → j < n → bit m j ≡ 0 → sum n (bit m) < n
unfolding sum
count_lt zero m j l b = absurd (omega arith)
count_lt (suc n) m j l b = elim (ℕ_discrete j n) [
  | yes e ↦ omega (arith, ap (bit m) e, count_le n m)
  | no d ↦ omega (arith, count_lt n m j (omega (arith, d)) b, bit_lt m n)
]

pub stage_room : {E : ℕ → ℕ → ℕ} {m t q f : ℕ → ℕ} {n a outs ins : ℕ} → Stage E m t q f n a outs ins → n ≤ 32
stage_room {ins = ins} s = omega (arith, count_le 32 ins, s.count)

-- all are done with: the inputs seen are closed
pub stage_closed : {E : ℕ → ℕ → ℕ} {m t q f : ℕ → ℕ} {n a outs ins : ℕ} → Stage E m t q f n a outs ins → n ≤ a → Closed E t (q 0) ins
stage_closed {E} s l = record {
  root = s.member 0 s.some;
  shut = λ x j lx lj b e.
      (let k = s.listed x lx b in
      s.held j lj (s.done k.0 j (omega (arith, k.1)) lj (ap (λ (y : ℕ). E y j) k.2 ∙ e)));
}

module _ (E : ℕ → ℕ → ℕ) (m t q f : ℕ → ℕ) where
  pub stage_begin : (u ins : ℕ) → u < 32 → 32 ≤ m u → q 0 ≡ u → With 0 u ins → Stage E m t q f 1 0 0 ins
  stage_begin u ins lu fr e w = record {
    some = omega arith;
    order = omega arith;
    trail = record {
      within = λ k l. (let z : k ≡ 0 = omega arith in omega (arith, ap q z));
      apart = λ i k l l2. absurd (omega arith);
      less = λ k l l2. absurd (omega arith);
      has = λ k l l2. absurd (omega arith);
      asked = λ k l l2. absurd (omega arith);
    };
    member = λ k l. (let z : k ≡ 0 = omega arith in ap (λ (y : ℕ). bit ins (q y)) z ∙ ap (bit ins) e ∙ w.here lu);
    listed = λ x lx b. (0, omega arith, e ∙ sym (only x b));
    seen = λ x lx b l. absurd (omega (arith, ap m (only x b)));
    held = λ j lj b. absurd (omega (arith, bit_of_zero j));
    done = λ k j l. absurd (omega arith);
    count = omega (arith, count_with 32 0 u ins lu lu (bit_of_zero u) w, sum_zero 32 (bit 0) (λ k l. bit_of_zero k));
  }
    where
      only : (x : ℕ) → bit ins x ≡ 1 → x ≡ u
      only x b = elim (ℕ_discrete x u) [ yes z ↦ z | no d ↦ absurd (omega (arith, w.other x d, bit_of_zero x)) ]

  module _ (n a outs ins : ℕ) (s : Stage E m t q f n a outs ins) where
    pub stage_pass : a < n → ((j : ℕ) → j < 32 → E (q a) j ≡ 1 → bit outs j ≡ 1) → Stage E m t q f n (a + 1) outs ins
    stage_pass l h = record {
      some = s.some;
      order = omega arith;
      trail = s.trail;
      member = s.member;
      listed = s.listed;
      seen = s.seen;
      held = s.held;
      done = λ k j lk lj e. (elim (ℕ_discrete k a) [
        | yes z ↦ h j lj (ap (λ (y : ℕ). E (q y) j) (sym z) ∙ e)
        | no d ↦ s.done k j (omega (arith, d)) lj e
      ]);
      count = s.count;
    }

    module _ (p : Pairs E m t) (j : ℕ) (lj : j < 32) (lt : t j < 32) (o : bit outs j ≡ 0) where
      -- the holder of an output that was not seen was not seen
      pub stage_new : bit ins (t j) ≡ 0
      stage_new =
          elim (ℕ_discrete (bit ins (t j)) 1) [
            | yes z ↦
                (let b = p.forth j lj lt in
                absurd (omega (arith, s.seen (t j) lt z (omega arith), ap (bit outs) b)))
            | no d ↦ omega (arith, d, bit_lt ins (t j))
          ]

      module _ (q' f' : ℕ → ℕ) (outs' ins' : ℕ) (la : a < n) (e : E (q a) j ≡ 1) (pq : Put q n (t j) q') (pf : Put f n a f')
          (wo : With outs j outs') (wi : With ins (t j) ins') where
        old_q : (k : ℕ) → k < n → q' k ≡ q k
        old_q k l = pq.other k (λ z. omega arith)

        old_f : (k : ℕ) → k < n → f' k ≡ f k
        old_f k l = pf.other k (λ z. omega arith)

        -- what holds of the old entries and of the new one
        upto : (P : ℕ → Type 0) → ((k : ℕ) → k < n → P k) → P n → (k : ℕ) → k < n + 1 → P k
        upto P old here k l = elim (ℕ_discrete k n) [ yes z ↦ rw z here | no d ↦ old k (omega (arith, d)) ]

        more_ins : (x : ℕ) → bit ins x ≡ 1 → bit ins' x ≡ 1
        more_ins x b = elim (ℕ_discrete x (t j)) [ yes z ↦ ap (bit ins') z ∙ wi.here lt | no d ↦ wi.other x d ∙ b ]

        more_outs : (x : ℕ) → bit outs x ≡ 1 → bit outs' x ≡ 1
        more_outs x b = elim (ℕ_discrete x j) [ yes z ↦ ap (bit outs') z ∙ wo.here lj | no d ↦ wo.other x d ∙ b ]

        mine : m (t j) ≡ j
        mine = p.forth j lj lt

        trail' : Trail E m q' f' (n + 1)
        trail' = record {
          within = upto (λ k. q' k < 32) (λ k l. omega (arith, old_q k l, s.trail.within k l)) (omega (arith, pq.here));
          apart = λ i k l lk. upto (λ k. i < k → q' i ≡ q' k → ⊥)
              (λ k lk li z. s.trail.apart i k li lk (sym (old_q i (omega arith)) ∙ z ∙ old_q k lk))
              (λ li z. omega (arith, stage_new, s.member i li, ap (bit ins) (sym (old_q i li) ∙ z ∙ pq.here)))
              k lk l;
          less = λ k l lk. upto (λ k. 0 < k → f' k < k)
              (λ k lk l. omega (arith, old_f k lk, s.trail.less k l lk)) (λ l. omega (arith, pf.here)) k lk l;
          has = λ k l lk. upto (λ k. 0 < k → m (q' k) < 32)
              (λ k lk l. omega (arith, ap m (old_q k lk), s.trail.has k l lk)) (λ l. omega (arith, ap m pq.here, mine)) k lk l;
          asked = λ k l lk. upto (λ k. 0 < k → E (q' (f' k)) (m (q' k)) ≡ 1)
              (λ k lk l. cc (old_f k lk, old_q k lk, old_q (f k) (omega (arith, s.trail.less k l lk)), s.trail.asked k l lk))
              (λ l. cc (pf.here, old_q a la, pq.here, mine)) k lk l;
        }

        pub stage_push : Stage E m t q' f' (n + 1) a outs' ins'
        stage_push = record {
          some = omega arith;
          order = omega arith;
          trail = trail';
          member = upto (λ k. bit ins' (q' k) ≡ 1) (λ k l. ap (bit ins') (old_q k l) ∙ more_ins (q k) (s.member k l))
              (ap (bit ins') pq.here ∙ wi.here lt);
          listed = λ x lx b. (elim (ℕ_discrete x (t j)) [
            | yes z ↦ (n, omega arith, pq.here ∙ sym z)
            | no d ↦ let k = s.listed x lx (sym (wi.other x d) ∙ b) in (k.0, omega (arith, k.1), old_q k.0 k.1 ∙ k.2)
          ]);
          seen = λ x lx b l. (elim (ℕ_discrete x (t j)) [
            | yes z ↦ ap (λ (y : ℕ). bit outs' (m y)) z ∙ ap (bit outs') mine ∙ wo.here lj
            | no d ↦ more_outs (m x) (s.seen x lx (sym (wi.other x d) ∙ b) l)
          ]);
          held = λ k lk b. (elim (ℕ_discrete k j) [
            | yes z ↦ (omega (arith, ap t z), ap (λ (y : ℕ). bit ins' (t y)) z ∙ wi.here lt)
            | no d ↦ let h = s.held k lk (sym (wo.other k d) ∙ b) in (h.0, more_ins (t k) h.1)
          ]);
          done = λ k i lk li z. more_outs i (s.done k i lk li (ap (λ (y : ℕ). E y i) (sym (old_q k (omega arith))) ∙ z));
          count = count_with 32 ins (t j) ins' lt lt stage_new wi ∙ ap (λ (y : ℕ). y + 1) s.count;
        }
