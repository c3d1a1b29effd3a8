-- The sums and the counters over any run from a fresh card, refused calls in between among them. Assumes nothing.
use Rattle.std.specs.Prelude.{◌≡◌, refl, ◌⊎◌, ◌≢◌, ℕ, zero, suc, ◌+◌, ◌%◌, ◌^◌, ◌≤◌, ◌<◌, length}
use Rattle.std.proofs.Common.{sym, ap, inl, inr}
use mathlib.Core.List.{List, [], ◌∷◌}
use native.Mathlib.Omega.{arith}
use Rattle.std.proofs.Math.Arith.{le-zero}
use Rattle.masks.specs.Paper.{sum}
use Rattle.masks.specs.Tests.{eq_or_ne}
use Rattle.card.specs.declared.Card.{Card}
use Rattle.card.specs.declared.Counters.{Counters}
use Rattle.matches.specs.Paper.{at}
use Rattle.slot.specs.Paper.{State, Stepped, queues, fresh_refusal}
use Rattle.slot.specs.Ready.{Ready, used, used_small}
use Rattle.runs.specs.Paper.{Call, start, answer, after, total, accepted_in, offered_in, stored_in, dropped_in, departed_in, waiting}
use Rattle.runs.proofs.Kept.{Keeps, answer_keeps, after_keeps, by_answer, agreed_zero}
use Rattle.runs.proofs.Start.{New, is_new, none_waits}
use Rattle.runs.proofs.Sums.{balance, Nothing, refused_nothing}
use Rattle.runs.proofs.Counted.{Counts, offered_counts, stored_counts, dropped_counts, departed_counts, slot_counts}

-- ---- from any state that a slot can work on

pub record Totals (s : State) (calls : List Call) : Type 0 where
  pub offered : total offered_in s calls ≡ total stored_in s calls + total dropped_in s calls
  pub stored : waiting s + total stored_in s calls ≡ total departed_in s calls + waiting (after s calls)

pub run_sums : (calls : List Call) (s : State) → Ready s → Totals s calls
unfolding after total
run_sums [] s r = record { offered = refl; stored = omega arith }
run_sums (c ∷ calls) s r =
    let one = balance s r c in
    let rest = run_sums calls (answer s c).state (answer_keeps s r c).ready in
    record { offered = omega (arith, one.offered, rest.offered); stored = omega (arith, one.stored, rest.stored) }

module _ (f : State → ℕ) (g : Call → Stepped → ℕ) (o : Counts f g) where
  pub run_counts : (calls : List Call) (s : State) → Ready s → f s < 2 ^ 32 → f (after s calls) ≡ (f s + total g s calls) % 2 ^ 32
  unfolding after total
  run_counts [] s r b = omega arith
  run_counts (c ∷ calls) s r b =
      let one = o.one s r c b in
      omega (arith, one, run_counts calls (answer s c).state (answer_keeps s r c).ready (omega arith))

-- "a refused call in between adds nothing"
pub adds_nothing : (s : State) (c : Call) → (answer s c).refusal ≢ 0 → Nothing s c (answer s c)
adds_nothing s c = by_answer s c (λ x. x.refusal ≢ 0 → Nothing s c x) (λ _ d. absurd (d (agreed_zero s c))) (λ k d _. refused_nothing s c k d)

-- `Record::waiting` adds up the counts of all 1,024 queues: those from M·N on are 0, so that this is the sum of queue lengths
sum_rest : (m n : ℕ) (f : ℕ → ℕ) → m ≤ n → ((i : ℕ) → m ≤ i → i < n → f i ≡ 0) → sum n f ≡ sum m f
unfolding sum
sum_rest m zero f h z = ap (λ (k : ℕ). sum k f) (sym (le-zero h))
sum_rest m (suc n) f h z = go (λ (k : m ≤ n). sum_rest m n f k (λ i a b. z i a (omega arith))) (eq_or_ne m (suc n))
  where
    go : (m ≤ n → sum n f ≡ sum m f) → (m ≡ suc n) ⊎ (m ≢ suc n) → sum n f + f n ≡ sum m f
    go r (inl e) = ap (λ (k : ℕ). sum k f) (sym e)
    go r (inr d) = omega (arith, r (omega (arith, d)), z n (omega (arith, d)) (omega arith))

pub waiting_record : (s : State) → Ready s → sum queues (at s.kept.counts) ≡ waiting s
unfolding waiting
waiting_record s r = sum_rest (used s) queues (at s.kept.counts) (used_small s r) (λ k a b. (r.queue k b).count_rest a)

-- ---- from a fresh card

module _ (c : Card) (cells stamps : List ℕ) (e : fresh_refusal c (length cells) (length stamps) ≡ 0) (calls : List Call) where
  abbrev s : State
  s = start c cells stamps

  new : New c s
  new = is_new c cells stamps e

  -- "This presumes that record and lists come back to the next call unchanged": the card stays one that a slot can work on, of the same size
  pub stays_ready : Keeps s (after s calls)
  stays_ready = after_keeps calls s new.ready

  -- "over any run from a fresh card offered ≡ stored + dropped and stored ≡ departed + waiting, where the first four are counted from the arrivals and
  -- reports and waiting is the sum of queue lengths": as whole numbers
  pub all_offered : total offered_in s calls ≡ total stored_in s calls + total dropped_in s calls
  all_offered = (run_sums calls s new.ready).offered

  pub all_stored : total stored_in s calls ≡ total departed_in s calls + waiting (after s calls)
  all_stored = omega (arith, (run_sums calls s new.ready).stored, none_waits c s new)

  -- and so modulo 4,294,967,296
  pub offered_modulo : total offered_in s calls % 2 ^ 32 ≡ (total stored_in s calls + total dropped_in s calls) % 2 ^ 32
  offered_modulo = ap (λ (x : ℕ). x % 2 ^ 32) all_offered

  pub stored_modulo : total stored_in s calls % 2 ^ 32 ≡ (total departed_in s calls + waiting (after s calls)) % 2 ^ 32
  stored_modulo = ap (λ (x : ℕ). x % 2 ^ 32) all_stored

  -- "Counters run modulo 4,294,967,296": each counter of the record is what was counted, modulo the same
  from_none : (f : State → ℕ) (g : Call → Stepped → ℕ) → Counts f g → f s ≡ 0 → f (after s calls) ≡ total g s calls % 2 ^ 32
  from_none f g o z = omega (arith, z, run_counts f g o calls s new.ready (omega arith))

  pub counter_offered : (after s calls).kept.counters.offered ≡ total offered_in s calls % 2 ^ 32
  counter_offered = from_none _ offered_in offered_counts (ap (λ (x : Counters). x.offered) new.counters)

  pub counter_stored : (after s calls).kept.counters.stored ≡ total stored_in s calls % 2 ^ 32
  counter_stored = from_none _ stored_in stored_counts (ap (λ (x : Counters). x.stored) new.counters)

  pub counter_dropped : (after s calls).kept.counters.dropped ≡ total dropped_in s calls % 2 ^ 32
  counter_dropped = from_none _ dropped_in dropped_counts (ap (λ (x : Counters). x.dropped) new.counters)

  pub counter_departed : (after s calls).kept.counters.departed ≡ total departed_in s calls % 2 ^ 32
  counter_departed = from_none _ departed_in departed_counts (ap (λ (x : Counters). x.departed) new.counters)

  -- so the sums hold of the record's counters too
  pub counters_offered : (after s calls).kept.counters.offered ≡ ((after s calls).kept.counters.stored + (after s calls).kept.counters.dropped) % 2 ^ 32
  counters_offered = omega (arith, all_offered, counter_offered, counter_stored, counter_dropped)

  pub counters_stored : (after s calls).kept.counters.stored ≡ ((after s calls).kept.counters.departed + waiting (after s calls)) % 2 ^ 32
  counters_stored = omega (arith, all_stored, counter_stored, counter_departed)

  -- "The slot number grows by 1, modulo the same": it is the number of calls accepted
  pub slot_number : (after s calls).kept.slot ≡ total accepted_in s calls % 2 ^ 32
  slot_number = from_none _ accepted_in slot_counts new.slot
