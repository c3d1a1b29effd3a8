-- Each way out of `store` and `send`, as a law about the definitions; and what it says that a queue stands. Assumes nothing.
use Rattle.std.specs.Prelude.{◌≡◌, ℕ, ◌+◌, ◌-◌, ◌%◌, ◌^◌, ◌<◌, ◌≤◌, true, false}
use Rattle.std.proofs.Math.Bool.{and-false}
use Rattle.std.proofs.Common.{arith}
use borrow.Author.Tests.{ltb-true, leb-true, eqb-true, lt-ltb, le-ltb, le-leb, eq-eqb}
use Rattle.masks.specs.Tests.{and_true, and_both}
use Rattle.card.specs.Paper.{depth}
use Rattle.card.specs.Limits.{Within, within_is, is_within}
use Rattle.queue.specs.Paper.{Ring, D, stands, standing, stored, store, wait_of, oldest, oldest_stamp, sent, Sending, send}

-- ---- a queue that stands

pub record Stands (h c p o : ℕ) : Type 0 where
  pub places : Within depth p
  pub level : p ≡ o
  pub head_in : h < p
  pub count_in : c ≤ p

pub stands_is : (h c p o : ℕ) → stands h c p o ≡ true → Stands h c p o
unfolding stands
stands_is h c p o e =
    let a = and_both _ _ e in
    let b = and_both _ _ a.0 in
    let d = and_both _ _ a.1 in
    record { places = within_is depth p b.0; level = eqb-true p o b.1; head_in = ltb-true h p d.0; count_in = leb-true c p d.1 }

pub is_stands : (h c p o : ℕ) → Stands h c p o → stands h c p o ≡ true
unfolding stands
is_stands h c p o s =
    and_true (and_true (is_within depth p s.places) (eq-eqb p o s.level)) (and_true (lt-ltb h p s.head_in) (le-leb c p s.count_in))

-- ---- the ways out

module _ (cell slot : ℕ) (q : Ring) where
  pub store_fallen : standing q ≡ false → q ≡ store cell slot q
  unfolding store
  store_fallen e = rw e

  pub store_full : D q ≤ q.count → q ≡ store cell slot q
  unfolding store
  store_full h = rw (le-ltb q.count (D q) h, and-false (standing q))

  pub store_room : standing q ≡ true → q.count < D q → stored cell slot q ≡ store cell slot q
  unfolding store
  store_room e h = rw (e, lt-ltb q.count (D q) h)

abbrev pub nothing_sent : Ring → Sending
nothing_sent q = record { ring = q; cell = 0; wait = 0 }

module _ (slot : ℕ) (q : Ring) where
  pub send_fallen : standing q ≡ false → nothing_sent q ≡ send slot q
  unfolding send
  send_fallen e = rw e

  pub send_empty : q.count ≡ 0 → nothing_sent q ≡ send slot q
  unfolding send
  send_empty h = rw (le-ltb 0 q.count (omega arith), and-false (standing q))

  pub send_oldest : standing q ≡ true → 0 < q.count → record { ring = sent q; cell = oldest q; wait = wait_of slot (oldest_stamp q) } ≡ send slot q
  unfolding send
  send_oldest e h = rw (e, lt-ltb 0 q.count h)

-- ---- the wait is the number that the stamp added to wraps back to the slot number

pub wait_law : (slot stamp r : ℕ) → slot < 2 ^ 32 → stamp < 2 ^ 32 → r < 2 ^ 32 → (r + stamp) % 2 ^ 32 ≡ slot → r ≡ wait_of slot stamp
unfolding wait_of
wait_law slot stamp r a b c e = omega arith

pub wait_value : (slot stamp : ℕ) → slot < 2 ^ 32 → stamp < 2 ^ 32 → (slot + (2 ^ 32 - stamp)) % 2 ^ 32 ≡ wait_of slot stamp
unfolding wait_of
wait_value slot stamp a b = omega arith

pub wait_back : (slot stamp : ℕ) → slot < 2 ^ 32 → stamp < 2 ^ 32 → (wait_of slot stamp + stamp) % 2 ^ 32 ≡ slot
unfolding wait_of
wait_back slot stamp a b = omega arith

-- so the wait leads back to the stamp
pub wait_again : (slot stamp : ℕ) → slot < 2 ^ 32 → stamp < 2 ^ 32 → wait_of slot (wait_of slot stamp) ≡ stamp
unfolding wait_of
wait_again slot stamp a b = omega arith
