-- The ways out of a call, refused or done, and what the tests of the lists say. Assumes nothing.
use Rattle.std.specs.Prelude.{◌≡◌, refl, ◌≢◌, Bool, true, false, ◌&&◌, ℕ, zero, suc, eqb}
use Rattle.std.proofs.Common.{ap, arith, eqb-true}
use Rattle.masks.specs.Tests.{and_both}
use Rattle.card.specs.Limits as Limits
use Rattle.card.specs.Paper.{unless, refusal_number}
use Rattle.card.specs.declared.Refusal.{Refusal}
use Rattle.crosspoint.specs.Paper.{outcome, record_long, report_long, answer_long, weights_long, slot_long, read_long}
use Rattle.crosspoint.specs.Outcomes.{after}

-- ---- the ways out of a call

-- a refusal: the lists stay
pub refused : {A : Type 0} (r q : ℕ) (done was : A) → r ≡ q → r ≢ 0 → after r was ≡ outcome q done was
unfolding outcome
refused zero q done was e d = absurd (d refl)
refused (suc k) q done was e d = rw (← e)

-- none: what was done
pub accepted : {A : Type 0} (q : ℕ) (now done was : A) → q ≡ 0 → now ≡ done → after 0 now ≡ outcome q done was
unfolding outcome
accepted q now done was e f = rw (e, f)

-- each has its length: what comes after that test decides
pub passed : {A : Type 0} (test : Bool) (k next : ℕ) (done was : A) → test ≡ true → outcome next done was ≡ outcome (unless test k next) done was
passed test k next done was e = rw e

-- ---- a test of lengths, as it answers

pub long_passed : (test : Bool) → 0 ≡ unless test 2 0 → test ≡ true
long_passed true e = refl
long_passed false e = absurd (omega (arith, e))

-- refused before all else
pub long_refused : {A : Type 0} (test : Bool) (r : Refusal) (next : ℕ) (done was : A) → refusal_number r ≡ unless test 2 0 → after (refusal_number r) was ≡ outcome (unless test 2 next) done was
unfolding outcome
long_refused true r next done was e = absurd (Limits.refused r e)
long_refused false r next done was e = ap (λ n. after n was) e

-- the first of two tests, and the second
pub first_long : (a b : Bool) (r : Refusal) → refusal_number r ≡ unless a 2 0 → refusal_number r ≡ unless (a && b) 2 0
first_long true b r e = absurd (Limits.refused r e)
first_long false b r e = e

pub second_long : (a b : Bool) {n : ℕ} → a ≡ true → n ≡ unless b 2 0 → n ≡ unless (a && b) 2 0
second_long a b h e = rw h e

-- ---- lengths that a test has found right

pub record AnswerLong (a b : ℕ) : Type 0 where
  pub partners : a ≡ 32
  pub totals : b ≡ 2

pub answer_long_lem : (a b : ℕ) → answer_long a b ≡ true → AnswerLong a b
unfolding answer_long
answer_long_lem a b e = let h = and_both _ _ e in record { partners = eqb-true _ _ h.0; totals = eqb-true _ _ h.1 }

pub record WeightsLong (a b c : ℕ) : Type 0 where
  pub rows : a ≡ 32
  pub inputs : b ≡ 32
  pub outputs : c ≡ 32

pub weights_long_lem : (a b c : ℕ) → weights_long a b c ≡ true → WeightsLong a b c
unfolding weights_long
weights_long_lem a b c e =
    let h = and_both (eqb a 32) _ e in
    let k = and_both (eqb b 32) _ h.1 in
    record { rows = eqb-true _ _ h.0; inputs = eqb-true _ _ k.0; outputs = eqb-true _ _ k.1 }

pub record ReadLong (a b c : ℕ) : Type 0 where
  pub hold : a ≡ 1
  pub outputs : b ≡ 32
  pub cells : c ≡ 32

pub read_long_lem : (a b c : ℕ) → read_long a b c ≡ true → ReadLong a b c
unfolding read_long
read_long_lem a b c e =
    let h = and_both (eqb a 1) _ e in
    let k = and_both (eqb b 32) _ h.1 in
    record { hold = eqb-true _ _ h.0; outputs = eqb-true _ _ k.0; cells = eqb-true _ _ k.1 }

pub record SlotLong (a b c d : ℕ) : Type 0 where
  pub kept : a ≡ record_long
  pub outputs : b ≡ 32
  pub arriving : c ≡ 32
  pub report : d ≡ report_long

pub slot_long_lem : (a b c d : ℕ) → slot_long a b c d ≡ true → SlotLong a b c d
unfolding slot_long
slot_long_lem a b c d e =
    let h = and_both (eqb a record_long) _ e in
    let k = and_both (eqb b 32) _ h.1 in
    let l = and_both (eqb c 32) _ k.1 in
    record { kept = eqb-true _ _ h.0; outputs = eqb-true _ _ k.0; arriving = eqb-true _ _ l.0; report = eqb-true _ _ l.1 }
