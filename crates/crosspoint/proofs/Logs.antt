-- The whole-log check on lists: refused or passed, from what the check answers; and the writer. Assumes nothing.
use Rattle.std.specs.Prelude.{◌≡◌, refl, ◌≢◌, Bool, true, false, List, [], ◌∷◌, ℕ, length, eqb, Result, Ok, Err}
use Rattle.std.proofs.Math.Path.{ap}
use Rattle.std.proofs.Common.{◌∙◌}
use Rattle.card.specs.declared.Refusal.{Refusal}
use Rattle.slotlog.specs.Paper.{Checked, check, Written, write}
use Rattle.card.specs.Paper.{unless, refusal_number}
use Rattle.card.specs.Limits as Limits
use Rattle.slotlog.specs.Answers.{written_of, in_no_record}
use Rattle.crosspoint.specs.Paper.{Outcome, outcome, halves, check_lists, write_lists}
use Rattle.crosspoint.specs.Outcomes.{after, checked_number, written_number}
use Rattle.crosspoint.proofs.Outcomes.{refused, accepted}

-- another length is refusal 2, and lies in no record
long_refused : {A : Type 0} (test : Bool) (r : Refusal) (next number : ℕ) (done was : A) → refusal_number r ≡ unless test 2 0
    → after (halves (refusal_number r) 0) was ≡ after (halves (unless test 2 next) (unless test 0 number)) (outcome (unless test 2 next) done was).lists
unfolding outcome
long_refused true r next number done was e = absurd (Limits.refused r e)
long_refused false r next number done was e = ap (λ k. after (halves k 0) was) e

pub check_short : (log answer : List ℕ) (r : Refusal) → refusal_number r ≡ unless (eqb (length answer) 5) 2 0 → after (checked_number {T = Unit {0}} (Err (in_no_record r))) answer ≡ check_lists log answer
unfolding check_lists
check_short log answer r e = long_refused (eqb (length answer) 5) r _ _ _ _ e

module _ (log answer : List ℕ) (l : eqb (length answer) 5 ≡ true) (c : Checked) (e : c ≡ check log) (x : ℕ) (h : x ≡ halves c.fault.refusal c.fault.record_number) where
  given : (now : List ℕ) → after c.fault.refusal now ≡ outcome c.fault.refusal (c.m ∷ c.n ∷ c.d ∷ c.count ∷ c.first ∷ []) answer → after x now ≡ check_lists log answer
  unfolding check_lists
  given now q =
      ap (λ (k : ℕ). after k now) h
      ∙ ap (λ (o : Outcome (List ℕ)). after (halves c.fault.refusal c.fault.record_number) o.lists) q
      ∙ rw (l, e)

  pub check_refused : c.fault.refusal ≢ 0 → after x answer ≡ check_lists log answer
  check_refused d = given answer (refused _ _ _ _ refl d)

  pub check_passed : (now : List ℕ) → c.fault.refusal ≡ 0 → now ≡ c.m ∷ c.n ∷ c.d ∷ c.count ∷ c.first ∷ [] → after x now ≡ check_lists log answer
  check_passed now z q = given now (ap (λ (k : ℕ). after k now) z ∙ accepted _ _ _ _ z q)

-- ---- the writer

pub write_put : (m n d : ℕ) (holds outputs cells buffer now : List ℕ) (r : Result ℕ Refusal) → written_of r now ≡ write m n d holds outputs cells buffer
    → after (written_number r) now ≡ write_lists m n d holds outputs cells buffer
unfolding write_lists
write_put m n d holds outputs cells buffer now (Ok k) e = ap (λ (w : Written). after (halves w.refusal w.length_written) w.buffer) e
write_put m n d holds outputs cells buffer now (Err f) e = ap (λ (w : Written). after (halves w.refusal w.length_written) w.buffer) e
