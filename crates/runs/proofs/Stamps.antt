-- A slot number and stamps of 32 bits stay so in every call. Assumes nothing.
use Rattle.std.specs.Prelude.{List, [], ◌∷◌, ◌++◌, ℕ, zero, suc, ◌+◌, ◌*◌, ◌^◌, ◌<◌, take, drop, set, replicate}
use Rattle.std.proofs.Common.{mod-lt, arith, get_or-drop, lit<}
use Rattle.card.specs.declared.Counters.{Counters}
use Rattle.card.specs.Paper.{one_stored, one_dropped, one_departed}
use Rattle.queue.specs.Paper.{Ring, stored}
use Rattle.matches.specs.Paper.{at}
use Rattle.slot.specs.Paper.{State, Stepped, queue_at, with_queue, counting, accepted}
use Rattle.slot.specs.Ready.{Ready}
use Rattle.runs.specs.Paper.{Call, answer}
use Rattle.runs.proofs.Kept.{agreed, Way, by_way}
use Rattle.runs.proofs.Through.{StepsKeep, through}

-- ---- a list of numbers below b

abbrev pub Below : ℕ → List ℕ → Type 0
Below b l = (p : ℕ) → at l p < b

below_append : (b : ℕ) (xs ys : List ℕ) → Below b xs → Below b ys → Below b (xs ++ ys)
below_append b [] ys f g p = g p
below_append b (x ∷ xs) ys f g zero = f 0
below_append b (x ∷ xs) ys f g (suc p) = below_append b xs ys (λ q. f (suc q)) g p

below_take : (b n : ℕ) (xs : List ℕ) → Below b xs → Below b (take n xs)
below_take b zero xs f p = omega (arith, f 0)
below_take b (suc n) [] f p = f p
below_take b (suc n) (x ∷ xs) f zero = f 0
below_take b (suc n) (x ∷ xs) f (suc p) = below_take b n xs (λ q. f (suc q)) p

below_drop : (b n : ℕ) (xs : List ℕ) → Below b xs → Below b (drop n xs)
below_drop b n xs f p = rw (get_or-drop n xs p 0) (f (n + p))

below_set : (b : ℕ) (xs : List ℕ) (i x : ℕ) → x < b → Below b xs → Below b (set xs i x)
below_set b [] i x h f p = f p
below_set b (y ∷ xs) zero x h f zero = h
below_set b (y ∷ xs) zero x h f (suc p) = f (suc p)
below_set b (y ∷ xs) (suc i) x h f zero = f 0
below_set b (y ∷ xs) (suc i) x h f (suc p) = below_set b xs i x h (λ q. f (suc q)) p

pub below_replicate : (b n x : ℕ) → x < b → Below b (replicate n x)
below_replicate b zero x h p = omega arith
below_replicate b (suc n) x h zero = h
below_replicate b (suc n) x h (suc p) = below_replicate b n x h p

-- ---- a card whose slot number and stamps are of 32 bits

pub record Words (s : State) : Type 0 where
  pub slot_fits : s.kept.slot < 2 ^ 32
  pub stamps_fit : Below (2 ^ 32) s.stamps

-- a queue of it, and one put into it
pub queue_words : (s : State) → Words s → (k : ℕ) → Below (2 ^ 32) (queue_at s k).stamps
unfolding queue_at
queue_words s w k = below_take _ s.kept.card.d _ (below_drop _ (k * s.kept.card.d) s.stamps w.stamps_fit)

with_words : (k : ℕ) (q : Ring) (s : State) → Words s → Below (2 ^ 32) q.stamps → Words (with_queue k q s)
unfolding with_queue
with_words k q s w f =
    let a = k * s.kept.card.d in
    record {
      slot_fits = w.slot_fits;
      stamps_fit = below_append _ (take a s.stamps) _ (below_take _ a s.stamps w.stamps_fit)
          (below_append _ q.stamps _ f (below_drop _ s.kept.card.d _ (below_drop _ a s.stamps w.stamps_fit)));
    }

pub stored_words : (cell slot : ℕ) (q : Ring) → slot < 2 ^ 32 → Below (2 ^ 32) q.stamps → Below (2 ^ 32) (stored cell slot q).stamps
stored_words cell slot q h f = below_set _ q.stamps _ slot h f

-- ---- every call keeps it

counting_words : (f : Counters → Counters) (s : State) → Words s → Words (counting f s)
counting_words f s w = record { slot_fits = w.slot_fits; stamps_fit = w.stamps_fit }

steps_words : (s : State) → Words s → StepsKeep s (λ n d g u. Words u)
steps_words s w =
    record {
      begin = w;
      store = λ n d g k cell u r l h x.
          counting_words one_stored _ (with_words k _ u x (stored_words cell u.kept.slot (queue_at u k) x.slot_fits (queue_words u x k)));
      drop = λ n d g u x. counting_words one_dropped u x;
      send = λ n d g k u r l h x.
          counting_words one_departed _ (with_words k _ u x (below_set _ (queue_at u k).stamps (queue_at u k).head 0 (lit< tt) (queue_words u x k)));
    }

agreed_words : (s : State) (c : Call) → Way s c → Words s → Words (agreed s c).state
unfolding accepted
agreed_words s c w x = record { slot_fits = mod-lt _ (lit< tt); stamps_fit = (through s c w _ (steps_words s x)).holds.stamps_fit }

pub answer_words : (s : State) → Ready s → (c : Call) → Words s → Words (answer s c).state
answer_words s r c x = by_way s r c (λ (y : Stepped). Words y.state) (λ w. agreed_words s c w x) (λ k d. x)
