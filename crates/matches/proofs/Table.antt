-- The requests and port weights that a table of counts and a hold come to, read back. Assumes nothing.
use Rattle.std.specs.Prelude.{◌≡◌, Bool, true, false, ◌&&◌, List, ℕ, zero, suc, ◌+◌, ◌*◌, ◌/◌, ◌%◌, ◌^◌, ◌≤◌, ◌<◌, ltb}
use Rattle.std.proofs.Common.{sym, ◌∙◌, arith}
use Rattle.std.proofs.Math.Path.{ap}
use Rattle.std.proofs.Math.Bool.{and-false}
use Rattle.std.proofs.Math.Dec.{leb-suc-suc}
use borrow.Author.Tests.{lt-ltb, le-ltb, ltb-true}
use Rattle.masks.specs.Paper.{bit, has, keep}
use Rattle.masks.specs.Tests.{and_both, keep_true}
use Rattle.masks.proofs.Laws.{bit_zero, bit_suc, bit_of_zero, on_has, off_has}
use Rattle.card.specs.Paper.{ports}
use Rattle.matches.specs.Paper.{at, asks, mask, count, R, C, table_in, table_out, wants, table_rows}
use Rattle.matches.proofs.Lists.{get_or_tab}

-- ---- a number given bit by bit

low : (c : Bool) (m : ℕ) → (keep c 1 + 2 * m) % 2 ≡ keep c 1
low true m = omega arith
low false m = omega arith

half : (c : Bool) (m : ℕ) → (keep c 1 + 2 * m) / 2 ≡ m
half true m = omega arith
half false m = omega arith

pub bit_mask : (n : ℕ) (b : ℕ → Bool) (k : ℕ) → bit (mask n b) k ≡ keep (ltb k n && b k) 1
unfolding mask
bit_mask zero b k = bit_of_zero k ∙ sym (ap (λ (t : Bool). keep (t && b k) 1) (le-ltb k 0 (omega arith)))
bit_mask (suc n) b zero = bit_zero _ ∙ low (b 0) (mask n (λ k. b (suc k))) ∙ sym (ap (λ (t : Bool). keep (t && b 0) 1) (lt-ltb 0 (suc n) (omega arith)))
bit_mask (suc n) b (suc k) =
    bit_suc _ k
    ∙ ap (λ (x : ℕ). bit x k) (half (b 0) (mask n (λ k. b (suc k))))
    ∙ bit_mask n (λ k. b (suc k)) k
    ∙ sym (ap (λ (t : Bool). keep (t && b (suc k)) 1) (leb-suc-suc (suc k) n))

pub mask_lt : (n : ℕ) (b : ℕ → Bool) → mask n b < 2 ^ n
unfolding mask
mask_lt zero b = omega arith
mask_lt (suc n) b = go (b 0) (mask_lt n (λ k. b (suc k)))
  where
    go : (c : Bool) → mask n (λ k. b (suc k)) < 2 ^ n → keep c 1 + 2 * mask n (λ k. b (suc k)) < 2 ^ suc n
    go true h = omega arith
    go false h = omega arith

has_keep : (x k : ℕ) (t : Bool) → bit x k ≡ keep t 1 → has x k ≡ t
has_keep x k true e = on_has x k e
has_keep x k false e = off_has x k e

pub has_mask : (n : ℕ) (b : ℕ → Bool) (k : ℕ) → k < n → has (mask n b) k ≡ b k
has_mask n b k l = has_keep (mask n b) k (ltb k n && b k) (bit_mask n b k) ∙ ap (λ (t : Bool). t && b k) (lt-ltb k n l)

-- ---- the table's problem

module _ (M N : ℕ) (counts : List ℕ) where
  pub wants_in : (hold i j : ℕ) → M ≤ i → wants M N counts hold i j ≡ false
  unfolding wants
  wants_in hold i j h = rw (le-ltb i M h)

  pub wants_out : (hold i j : ℕ) → N ≤ j → wants M N counts hold i j ≡ false
  unfolding wants
  wants_out hold i j h = rw (le-ltb j N h) (and-false (ltb i M))

  pub wants_at : (hold i j : ℕ) → wants M N counts hold i j ≡ true → (i < M) × (j < N) × (1 ≤ count M N counts i j)
  unfolding wants
  wants_at hold i j e =
      let a = and_both (ltb i M) _ e in
      let b = and_both (ltb j N) _ a.1 in
      (ltb-true i M a.0, ltb-true j N b.0, ltb-true 0 (count M N counts i j) (and_both _ _ b.1).0)

  -- the rows hold the requests
  pub table_asks : (hold i j : ℕ) → i < ports → j < ports → asks (table_rows M N counts hold) i j ≡ wants M N counts hold i j
  unfolding asks table_rows
  table_asks hold i j li lj = ap (λ (x : ℕ). has x j) (get_or_tab ports _ i 0 li) ∙ has_mask ports (wants M N counts hold i) j lj

  pub totals_in : (i : ℕ) → i < ports → i < M → at (table_in M N counts) i ≡ R M N counts i
  unfolding table_in
  totals_in i l h = get_or_tab ports _ i 0 l ∙ keep_true (R M N counts i) (lt-ltb i M h)

  pub totals_out : (j : ℕ) → j < ports → j < N → at (table_out M N counts) j ≡ C M N counts j
  unfolding table_out
  totals_out j l h = get_or_tab ports _ j 0 l ∙ keep_true (C M N counts j) (lt-ltb j N h)
