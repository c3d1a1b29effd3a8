-- The writer: it refuses nothing exactly where its arguments are accepted, and what it answers either way. Assumes nothing.
use Rattle.std.specs.Prelude.{◌≡◌, refl, ◌≢◌, List, ◌++◌, length, drop}
use Rattle.std.proofs.Common.{sym, ap, ◌∙◌, arith, leb-true, le-leb, eq-eqb}
use Prim.Native.Nat.{ℕ, zero, suc}
use Rattle.card.specs.Limits.{are_sizes}
use Rattle.slotlog.specs.Paper.{write_refusal, Written, write}
use Rattle.slotlog.specs.Refused.{first_of, first_rest, first_zero, unless_zero, zero_unless}
use Rattle.slotlog.specs.Faults.{refusal_of, fault_none, none_fault}
use Rattle.slotlog.specs.Given.{Accepted, given_log}
use Rattle.slotlog.specs.WriteRefusals.{slot_fault, records_refusal, room_refusal, in_parts, lists_are}

pub accepted_is : (M N D : ℕ) (holds outputs cells : List ℕ) (room : ℕ) → write_refusal M N D holds outputs cells room ≡ 0 → Accepted M N D holds outputs cells room
unfolding records_refusal room_refusal
accepted_is M N D holds outputs cells room e =
    let a = first_zero _ _ (in_parts M N D holds outputs cells room ∙ e) in
    let b = first_zero _ _ a.1 in
    record {
      lists = lists_are M N D holds outputs cells a.0;
      each = λ k l. fault_none (slot_fault M N D holds outputs cells) (length holds) 0 b.0 k (omega arith) (omega arith);
      fits = leb-true _ _ (unless_zero _ 9 0 b.1).0;
    }

pub is_accepted : (M N D : ℕ) (holds outputs cells : List ℕ) (room : ℕ) → Accepted M N D holds outputs cells room → write_refusal M N D holds outputs cells room ≡ 0
unfolding write_refusal first_of
is_accepted M N D holds outputs cells room a =
    let faults = none_fault (slot_fault M N D holds outputs cells) (length holds) 0 (λ k _ l. a.each k (omega arith)) in
    zero_unless 1 (are_sizes M N D a.lists.sizes)
    (zero_unless 2 (eq-eqb _ _ a.lists.outputs_full)
    (zero_unless 2 (eq-eqb _ _ a.lists.cells_full)
    (zero_unless 8 (le-leb _ _ a.lists.short)
    (sym (first_rest _ _ (ap refusal_of faults)) ∙ zero_unless 10 (le-leb _ _ a.fits) refl))))

-- ---- the answer

module _ (M N D : ℕ) (holds outputs cells buffer : List ℕ) where
  -- nothing is written
  pub write_refused : (r : ℕ) → r ≡ write_refusal M N D holds outputs cells (length buffer) → r ≢ 0
      → record { refusal = r; length_written = 0; buffer = buffer } ≡ write M N D holds outputs cells buffer
  unfolding write
  write_refused zero e d = absurd (d refl)
  write_refused (suc r) e d = rw (write, ← e)

  -- the log at the front
  pub write_taken : write_refusal M N D holds outputs cells (length buffer) ≡ 0
      → write M N D holds outputs cells buffer
      ≡ record { refusal = 0; length_written = length (given_log M N D holds outputs cells); buffer = given_log M N D holds outputs cells ++ drop (length (given_log M N D holds outputs cells)) buffer }
  unfolding write
  write_taken e = rw (write, e)

  -- no refusal in the answer: none applied
  pub write_none : (write M N D holds outputs cells buffer).refusal ≡ 0 → write_refusal M N D holds outputs cells (length buffer) ≡ 0
  write_none e = go (write_refusal M N D holds outputs cells (length buffer)) refl
    where
      go : (r : ℕ) → write_refusal M N D holds outputs cells (length buffer) ≡ r → write_refusal M N D holds outputs cells (length buffer) ≡ 0
      go zero q = q
      go (suc r) q =
          let z : ◌≡◌ {A = ℕ} (suc r) 0 = ap (λ (w : Written). w.refusal) (write_refused (suc r) (sym q) (λ n. absurd (omega arith))) ∙ e in
          absurd (omega arith)
