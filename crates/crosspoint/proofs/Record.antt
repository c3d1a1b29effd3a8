-- The record as a list of 2,056 numbers and the report as one of 99, part by part: what was written over the whole of a list, part after part, is the list.
-- Assumes nothing.
use Rattle.std.specs.Prelude.{◌≡◌, List, [], ◌∷◌, ◌++◌, ℕ, ◌+◌, ◌≤◌, length, take, drop}
use Rattle.std.proofs.Common.{sym, ap, ap₂, ◌∙◌, arith, length-append, drop_at, append-nil}
use Rattle.std.proofs.Math.Seq.{take_at, drop-length}
use Rattle.std.proofs.lemmas.List.{append_assoc, drop-drop, length-drop, length-take-le}
use borrow.Rule.Slice.PartMut.{mid_of, put_mid, post_of}
use Rattle.slot.specs.declared.Record.{Record}
use Rattle.slot.specs.Paper as slots
use Rattle.crosspoint.specs.Paper.{record_long, record_list, report_long, report_list}

-- c is b with the n numbers xs over its front
pub record Filled (b : List ℕ) (n : ℕ) (xs c : List ℕ) : Type 0 where
  pub is : c ≡ xs ++ drop n b
  pub long : length xs ≡ n

pub filled : (b xs : List ℕ) (n : ℕ) {ys : List ℕ} → ys ≡ xs → length ys ≡ n → Filled b n xs (ys ++ post_of 0 n b)
filled b xs n e h = record { is = ap (λ t. t ++ drop n b) e; long = ap length (sym e) ∙ h }

-- k numbers more
pub filled_on : {b xs c : List ℕ} {n : ℕ} (k : ℕ) (zs : List ℕ) {ys : List ℕ} → Filled b n xs c → ys ≡ zs → length ys ≡ k → Filled b (n + k) (xs ++ zs) (put_mid n k c ys)
filled_on {b} {xs} {c} {n} k zs f e h =
    let front : drop n c ≡ drop n b = ap (drop n) f.is ∙ drop_at xs (drop n b) n f.long in
    let l : length zs ≡ k = ap length (sym e) ∙ h in
    record {
      is =
          ap₂ (λ s t. s ++ t) (ap (take n) f.is ∙ take_at xs (drop n b) n f.long) (ap₂ (λ s t. s ++ drop k t) e front)
          ∙ ap (λ t. xs ++ (zs ++ t)) (drop-drop k n b)
          ∙ sym (append_assoc xs zs (drop (n + k) b));
      long = omega (arith, length-append xs zs, f.long, l);
    }

-- the same, where as many were written as the part had
pub filled_part : {b xs c : List ℕ} {n : ℕ} (k : ℕ) (zs : List ℕ) {ys : List ℕ} → Filled b n xs c → ys ≡ zs → length ys ≡ length (mid_of n k c) → n + k ≤ length b
    → Filled b (n + k) (xs ++ zs) (put_mid n k c ys)
filled_part {b} {xs} {n = n} k zs f e h l =
    filled_on k zs f e
    (h ∙ ap (λ s. length (take k s)) (ap (drop n) f.is ∙ drop_at xs (drop n b) n f.long) ∙ length-take-le k (drop n b) (omega (arith, length-drop n b, l)))

-- the whole of it
pub filled_all : {b xs c : List ℕ} {n : ℕ} → Filled b n xs c → length b ≡ n → c ≡ xs
filled_all {b} {xs} {n = n} f h = f.is ∙ ap (λ t. xs ++ t) (ap (λ k. drop k b) (sym h) ∙ drop-length b) ∙ append-nil xs

pub record_put : (r : Record) (b : List ℕ) {xs hs cs ts : List ℕ}
    → (e : xs ≡ r.card.m ∷ r.card.n ∷ r.card.d ∷ []) → hs ≡ r.heads → length hs ≡ length (mid_of 3 1024 (xs ++ post_of 0 3 b))
    → cs ≡ r.counts → length cs ≡ length (mid_of 1027 1024 (put_mid 3 1024 (xs ++ post_of 0 3 b) hs))
    → ts ≡ r.slot ∷ r.counters.offered ∷ r.counters.stored ∷ r.counters.dropped ∷ r.counters.departed ∷ [] → length b ≡ record_long
    → put_mid 2051 5 (put_mid 1027 1024 (put_mid 3 1024 (xs ++ post_of 0 3 b) hs) cs) ts ≡ record_list r
unfolding record_list
record_put r b e f h g k t l =
    let one = filled b (r.card.m ∷ r.card.n ∷ r.card.d ∷ []) 3 e (ap length e) in
    let two = filled_part 1024 r.heads one f h (omega (arith, l)) in
    let three = filled_part 1024 r.counts two g k (omega (arith, l)) in
    filled_all (filled_on 5 (r.slot ∷ r.counters.offered ∷ r.counters.stored ∷ r.counters.dropped ∷ r.counters.departed ∷ []) three t (ap length t)) l

pub report_put : (r : slots.Report) (b : List ℕ) {ps cs ws ts : List ℕ}
    → ps ≡ r.partners → length ps ≡ length (take 32 b) → cs ≡ r.cells → length cs ≡ length (mid_of 32 32 (ps ++ post_of 0 32 b))
    → ws ≡ r.waits → length ws ≡ length (mid_of 64 32 (put_mid 32 32 (ps ++ post_of 0 32 b) cs)) → ts ≡ r.pairs ∷ r.weighs ∷ r.dropped ∷ [] → length b ≡ report_long
    → put_mid 96 3 (put_mid 64 32 (put_mid 32 32 (ps ++ post_of 0 32 b) cs) ws) ts ≡ report_list r
unfolding report_list
report_put r b e h f k g m t l =
    let one = filled b r.partners 32 e (h ∙ length-take-le 32 b (omega (arith, l))) in
    let two = filled_part 32 r.cells one f k (omega (arith, l)) in
    let three = filled_part 32 r.waits two g m (omega (arith, l)) in
    filled_all (filled_on 3 (r.pairs ∷ r.weighs ∷ r.dropped ∷ []) three t (ap length t)) l
