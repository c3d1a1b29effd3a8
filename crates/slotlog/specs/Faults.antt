-- The first fault among records: one law for each way out of a loop that looks for it, and none exactly where no record has one. Assumes nothing.
use Rattle.std.specs.Prelude.{◌≡◌, ◌⊎◌, ◌≢◌}
use Rattle.std.proofs.Math.Path.{refl}
use Rattle.std.proofs.Common.{sym, ap, ◌∙◌, inl, inr, add-one}
use Prim.Native.Nat.{ℕ, zero, suc, ◌+◌, ◌-◌, ◌≤◌, ◌<◌}
use native.Mathlib.Omega.{arith}
use Rattle.masks.specs.Tests.{eq_or_ne}
use Rattle.slotlog.specs.Paper.{Fault, first_fault}

abbrev pub no_fault : Fault
no_fault = record { refusal = 0; record_number = 0 }

abbrev pub refusal_of : Fault → ℕ
refusal_of f = f.refusal

module _ (refusal : ℕ → ℕ) where
  -- the record numbered k has a fault
  fault_first : (n k r : ℕ) → refusal k ≡ r → r ≢ 0 → first_fault (suc n) k refusal ≡ record { refusal = r; record_number = suc k }
  unfolding first_fault
  fault_first n k zero e d = absurd (d refl)
  fault_first n k (suc r) e d = rw (first_fault, e)

  -- and has none
  fault_next : (n k : ℕ) → refusal k ≡ 0 → first_fault (suc n) k refusal ≡ first_fault n (suc k) refusal
  unfolding first_fault
  fault_next n k e = rw (first_fault, e)

  -- ---- a loop at record k, of n

  pub fault_start : (n : ℕ) → first_fault n 0 refusal ≡ first_fault (n - 0) 0 refusal
  fault_start n = let h : n ≡ n - 0 = omega arith in ap (λ (m : ℕ). first_fault m 0 refusal) h

  pub fault_here : (n k r : ℕ) → k < n → refusal k ≡ r → r ≢ 0 → first_fault (n - k) k refusal ≡ record { refusal = r; record_number = k + 1 }
  fault_here n k r l e d =
      let h : n - k ≡ suc (n - (k + 1)) = omega arith in
      ap (λ (m : ℕ). first_fault m k refusal) h ∙ fault_first (n - (k + 1)) k r e d ∙ ap (λ (i : ℕ). record { refusal = r; record_number = i }) (sym (add-one k))

  pub fault_past : (n k : ℕ) → k < n → refusal k ≡ 0 → first_fault (n - k) k refusal ≡ first_fault (n - (k + 1)) (k + 1) refusal
  fault_past n k l e =
      let h : n - k ≡ suc (n - (k + 1)) = omega arith in
      ap (λ (m : ℕ). first_fault m k refusal) h ∙ fault_next (n - (k + 1)) k e ∙ ap (λ (i : ℕ). first_fault (n - (k + 1)) i refusal) (sym (add-one k))

  pub fault_end : (n k : ℕ) → n ≤ k → first_fault (n - k) k refusal ≡ no_fault
  unfolding first_fault
  fault_end n k l = let h : n - k ≡ 0 = omega arith in rw h

  -- ---- no fault among n records from k on: none in any of them

  pub fault_none : (n k : ℕ) → (first_fault n k refusal).refusal ≡ 0 → (i : ℕ) → k ≤ i → i < k + n → refusal i ≡ 0
  fault_none zero k e i l h = absurd (omega arith)
  fault_none (suc n) k e i l h = go (fault_none n (suc k)) (refusal k) refl
    where
      go : ((first_fault n (suc k) refusal).refusal ≡ 0 → (i : ℕ) → suc k ≤ i → i < suc k + n → refusal i ≡ 0) → (r : ℕ) → refusal k ≡ r → refusal i ≡ 0
      go rest zero q = at (eq_or_ne i k)
        where
          at : (i ≡ k) ⊎ (i ≢ k) → refusal i ≡ 0
          at (inl s) = ap refusal s ∙ q
          at (inr d) = rest (sym (ap refusal_of (fault_next n k q)) ∙ e) i (omega (arith, d)) (omega arith)
      go rest (suc r) q =
          let z : ◌≡◌ {A = ℕ} (suc r) 0 = sym (ap refusal_of (fault_first n k (suc r) q (λ n. absurd (omega arith)))) ∙ e in
          absurd (omega arith)

  -- and the other way about
  pub none_fault : (n k : ℕ) → ((i : ℕ) → k ≤ i → i < k + n → refusal i ≡ 0) → first_fault n k refusal ≡ no_fault
  unfolding first_fault
  none_fault zero k h = refl
  none_fault (suc n) k h = fault_next n k (h k (omega arith) (omega arith)) ∙ none_fault n (suc k) (λ i l u. h i (omega arith) (omega arith))
