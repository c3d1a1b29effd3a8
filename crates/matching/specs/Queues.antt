-- A lent table of counts: where queue (i, j) stands in it, and an input's requests as a set of outputs. Assumes nothing.
use Rattle.std.specs.Prelude.{◌≡◌, refl, ◌⊎◌, ◌≢◌, Bool, true, false, not, ◌&&◌, List, [], ◌∷◌, ℕ, zero, suc, ◌+◌, ◌*◌, ◌-◌, ◌^◌, ◌≤◌, ◌<◌, length, set, replicate, ltb}
use Rattle.std.proofs.Math.Path.{sym, ap}
use Rattle.std.proofs.Common.{◌∙◌, inl, inr, mul-le-mul, mul-le-mul_right, lt_of_lt_of_le, arith, pow_mono}
use Rattle.std.proofs.Math.Bool.{and-false}
use borrow.Author.Tests.{lt-ltb, le-ltb}
use Rattle.masks.specs.Paper.{bit, has, keep, sum, With}
use Rattle.masks.specs.Tests.{cases, lt_or_ge, eq_or_ne, keep_lt, keep_ge}
use Rattle.masks.proofs.Laws.{same_bits, no_bits, has_on, has_off}
use Rattle.card.specs.Limits.{Ports}
use Rattle.card.specs.Paper.{ports}
use Rattle.matches.specs.Paper.{at, max_weight, mask, count, R, C, table_in, table_out, wants, table_rows, table_refusal}
use Rattle.matches.proofs.Accepted.{table_ok}
use Rattle.masks.specs.Sum.{sum_cong}
use Rattle.matches.proofs.Lists.{tab_cong}
use Rattle.matches.specs.Accepted.{TableOk}
use Rattle.matches.proofs.Table.{bit_mask, mask_lt, wants_in}
use Rattle.matching.specs.Fill.{filled}

-- ---- the list

-- M·N counts, of a card within its limits
pub record Sized (M N : ℕ) (counts : List ℕ) : Type 0 where
  pub sizes : Ports M N
  pub full : length counts ≡ M * N

pub sized : {M N : ℕ} {counts : List ℕ} {hold : ℕ} → TableOk M N counts hold → Sized M N counts
sized t = record { sizes = t.sizes; full = t.full }

-- and so of a table that is not refused
pub accepted_sized : (M N : ℕ) (counts : List ℕ) (hold : ℕ) → table_refusal M N counts hold ≡ 0 → Sized M N counts
accepted_sized M N counts hold e = sized (table_ok M N counts hold e)

-- queue (i, j) is in the table
pub record Queue (M N : ℕ) (counts : List ℕ) (i j : ℕ) : Type 0 where
  pub table : Sized M N counts
  pub in_row : i < M
  pub in_column : j < N

-- row i begins at i · N, so queue (i, j) stands in the list
place_inside : (M N i j : ℕ) → i < M → j < N → i * N + j < M * N
place_inside M N i j li lj = omega (arith, mul-le-mul_right N li)

pub queue_inside : {M N : ℕ} {counts : List ℕ} {i j : ℕ} → Queue M N counts i j → i * N + j < length counts
queue_inside {M} {N} {counts} {i} {j} q = rw q.table.full (place_inside M N i j q.in_row q.in_column)

-- and its place is a small number
pub queue_small : {M N : ℕ} {counts : List ℕ} {i j : ℕ} → Queue M N counts i j → i * N + j < 1024
queue_small {M} {N} {counts} {i} {j} q =
    omega (arith, place_inside M N i j q.in_row q.in_column, mul-le-mul_right N q.table.sizes.ins.high, q.table.sizes.outs.high)

-- ---- totals

-- so many counts from a place on, `step` places apart
unfoldable pub lane : (counts : List ℕ) → (from len step : ℕ) → ℕ
lane counts from len step = sum len (λ x. at counts (from + x * step))

-- so many lanes, which begin `apart` places from one another, stand in the list
pub record Lanes (counts : List ℕ) (lanes apart len step : ℕ) : Type 0 where
  pub small : length counts ≤ 1024
  pub few : lanes ≤ ports
  pub some : 1 ≤ len
  pub short : len ≤ ports
  pub inside : (k x : ℕ) → k < lanes → x < len → k * apart + x * step < length counts

module _ (M N : ℕ) (counts : List ℕ) where
  table_small : Sized M N counts → length counts ≤ 1024
  table_small s = omega (arith, s.full, mul-le-mul s.sizes.ins.high s.sizes.outs.high)

  -- its rows, and its columns
  pub row_lanes : Sized M N counts → Lanes counts M N N 1
  row_lanes s = record {
    small = table_small s;
    few = s.sizes.ins.high;
    some = s.sizes.outs.low;
    short = s.sizes.outs.high;
    inside = λ k x l h. omega (arith, s.full, place_inside M N k x l h);
  }

  pub column_lanes : Sized M N counts → Lanes counts N 1 M N
  column_lanes s = record {
    small = table_small s;
    few = s.sizes.outs.high;
    some = s.sizes.ins.low;
    short = s.sizes.ins.high;
    inside = λ k x l h. omega (arith, s.full, place_inside M N x k h l);
  }

  pub row_totals : filled ports M (λ k. lane counts (k * N) N 1) ≡ table_in M N counts
  unfolding filled lane table_in R count
  row_totals = tab_cong ports _ _ (λ k l. ap (keep (ltb k M)) (sum_cong N _ _ (λ x h. ap (at counts) (omega arith))))

  pub column_totals : filled ports N (λ k. lane counts (k * 1) M N) ≡ table_out M N counts
  unfolding filled lane table_out C count
  column_totals = tab_cong ports _ _ (λ k l. ap (keep (ltb k N)) (sum_cong M _ _ (λ x h. ap (at counts) (omega arith))))

-- every one of them within the limit of a weight
abbrev pub Light : List ℕ → Type 0
Light l = (k : ℕ) → at l k ≤ max_weight

pub light_none : (n : ℕ) → Light (replicate n 0)
light_none zero k = omega arith
light_none (suc n) zero = omega arith
light_none (suc n) (suc k) = light_none n k

pub light_set : (l : List ℕ) (i v : ℕ) → v ≤ max_weight → Light l → Light (set l i v)
light_set [] i v h a k = a k
light_set (x ∷ l) zero v h a zero = h
light_set (x ∷ l) zero v h a (suc k) = a (suc k)
light_set (x ∷ l) (suc i) v h a zero = a zero
light_set (x ∷ l) (suc i) v h a (suc k) = light_set l i v h (λ k. a (suc k)) k

-- ---- a row of requests, one output after another

-- cells wait at input i for output j
unfoldable pub waits : (M N : ℕ) → List ℕ → (i j : ℕ) → Bool
waits M N counts i j = ltb 0 (count M N counts i j)

-- r is m, and port j where b holds
pub record Marked (m j : ℕ) (b : Bool) (r : ℕ) : Type 0 where
  pub on : b ≡ true → With m j r
  pub off : b ≡ false → r ≡ m

-- of no output
pub mask_none : (b : ℕ → Bool) → 0 ≡ mask 0 b
unfolding mask
mask_none b = refl

marked_bit : (m j r : ℕ) (b : ℕ → Bool) → j < ports → m ≡ mask j b → Marked m j (b j) r → (k : ℕ) → bit r k ≡ keep (ltb k (j + 1) && b k) 1
marked_bit m j r b l e step k = go (cases (b j)) (eq_or_ne k j)
  where
    was : (i : ℕ) → bit m i ≡ keep (ltb i j && b i) 1
    was i = ap (λ (x : ℕ). bit x i) e ∙ bit_mask j b i

    -- the outputs but j are as they were
    same : k ≢ j → ltb k j ≡ ltb k (j + 1)
    same d = side (lt_or_ge k j)
      where
        side : (k < j) ⊎ (j ≤ k) → ltb k j ≡ ltb k (j + 1)
        side (inl h) = lt-ltb k j h ∙ sym (lt-ltb k (j + 1) (omega arith))
        side (inr h) = le-ltb k j h ∙ sym (le-ltb k (j + 1) (omega (arith, d)))

    go : (b j ≡ true) ⊎ (b j ≡ false) → (k ≡ j) ⊎ (k ≢ j) → bit r k ≡ keep (ltb k (j + 1) && b k) 1
    go (inl t) (inl q) = rw (q, t, lt-ltb j (j + 1) (omega arith)) ((step.on t).here l)
    go (inr f) (inl q) = rw (q, f, step.off f, lt-ltb j (j + 1) (omega arith)) (was j ∙ rw (f, le-ltb j j (omega arith)))
    go (inl t) (inr d) = (step.on t).other k d ∙ was k ∙ ap (λ (t : Bool). keep (t && b k) 1) (same d)
    go (inr f) (inr d) = ap (λ (x : ℕ). bit x k) (step.off f) ∙ was k ∙ ap (λ (t : Bool). keep (t && b k) 1) (same d)

-- one output more, in the form of a loop's counter
pub mask_step : (m j r : ℕ) (b : ℕ → Bool) → j < ports → r < 2 ^ ports → m ≡ mask j b → Marked m j (b j) r → r ≡ mask (j + 1) b
mask_step m j r b l fits e step =
    let h : j + 1 ≤ ports = omega arith in
    same_bits ports r (mask (j + 1) b) fits (lt_of_lt_of_le (mask_lt (j + 1) b) (pow_mono h)) (λ k _. marked_bit m j r b l e step k ∙ sym (bit_mask (j + 1) b k))

-- the held outputs taken out
free : (inside waiting : Bool) (hold k : ℕ) → keep (inside && waiting) 1 - bit hold k ≡ keep (inside && (waiting && not (has hold k))) 1
free inside waiting hold k = go (cases (has hold k))
  where
    none : (a b : Bool) → 0 ≡ keep (a && (b && false)) 1
    none true true = refl
    none true false = refl
    none false b = refl

    all : (a b : Bool) → keep (a && b) 1 - 0 ≡ keep (a && (b && true)) 1
    all true true = refl
    all true false = refl
    all false b = refl

    most : (t : Bool) → keep t 1 - 1 ≡ 0
    most true = refl
    most false = refl

    go : (has hold k ≡ true) ⊎ (has hold k ≡ false) → keep (inside && waiting) 1 - bit hold k ≡ keep (inside && (waiting && not (has hold k))) 1
    go (inl t) = rw (t, has_on hold k t) (most (inside && waiting) ∙ none inside waiting)
    go (inr f) = rw (f, has_off hold k f) (all inside waiting)

module _ (M N : ℕ) (counts : List ℕ) where
  pub row_law : (hold i w r : ℕ) → i < M → r < 2 ^ ports → w ≡ mask N (waits M N counts i) → ((k : ℕ) → bit r k ≡ bit w k - bit hold k) → r ≡ mask ports (wants M N counts hold i)
  unfolding waits wants
  row_law hold i w r l fits e bits = same_bits ports r (mask ports (wants M N counts hold i)) fits (mask_lt ports (wants M N counts hold i)) (λ k h. at k h)
    where
      at : (k : ℕ) → k < ports → bit r k ≡ bit (mask ports (wants M N counts hold i)) k
      at k h =
          bits k
          ∙ ap (λ (x : ℕ). bit x k - bit hold k) e
          ∙ ap (λ (x : ℕ). x - bit hold k) (bit_mask N (waits M N counts i) k)
          ∙ free (ltb k N) (ltb 0 (count M N counts i k)) hold k
          ∙ sym (bit_mask ports (wants M N counts hold i) k ∙ rw (lt-ltb k ports h, lt-ltb i M l))

  -- the rows from M on ask for nothing
  pub rows_law : (hold : ℕ) → filled ports M (λ i. mask ports (wants M N counts hold i)) ≡ table_rows M N counts hold
  unfolding filled table_rows
  rows_law hold = tab_cong ports _ _ (λ i l. at i (lt_or_ge i M))
    where
      nothing : (i : ℕ) → M ≤ i → mask ports (wants M N counts hold i) ≡ 0
      nothing i h = no_bits ports _ (mask_lt ports (wants M N counts hold i)) (λ k l. bit_mask ports (wants M N counts hold i) k ∙ rw (wants_in M N counts hold i k h, and-false (ltb k ports)))

      at : (i : ℕ) → (i < M) ⊎ (M ≤ i) → keep (ltb i M) (mask ports (wants M N counts hold i)) ≡ mask ports (wants M N counts hold i)
      at i (inl h) = keep_lt i M _ h
      at i (inr h) = keep_ge i M _ h ∙ sym (nothing i h)
