-- Parts of a list: what stands at a place of it, and a list put together again from its parts. Assumes nothing.
use Rattle.std.specs.Prelude.{◌≡◌, List, [], ◌∷◌, ◌++◌, ℕ, suc, ◌+◌, ◌≤◌, ◌<◌, length, take, drop}
use Rattle.std.proofs.Common.{sym, ap, get_or, ◌-◌, arith, length-drop, ◌∙◌, append_assoc, append-nil, add-zero, zero-lt-suc, add-one, drop-drop, drop_at, drop-cons, get_or-drop, take-add}
use Rattle.std.proofs.Math.ListN.{get_or-append}
use Rattle.matches.specs.Paper.{at}

-- ---- what stands at a place

pub record Stands (part log : List ℕ) (p : ℕ) : Type 0 where
  pub rest : List ℕ
  pub here : drop p log ≡ part ++ rest

pub stands_whole : (log : List ℕ) → Stands log log 0
stands_whole log = record { rest = []; here = sym (append-nil log) }

pub stands_left : (a b : List ℕ) {log : List ℕ} {p : ℕ} → Stands (a ++ b) log p → Stands a log p
stands_left a b s = record { rest = b ++ s.rest; here = s.here ∙ append_assoc a b s.rest }

pub stands_right : (a b : List ℕ) (n : ℕ) {log : List ℕ} {p : ℕ} → length a ≡ n → Stands (a ++ b) log p → Stands b log (p + n)
stands_right a b n {log} {p} e s =
    record {
      rest = s.rest;
      here = sym (drop-drop n p log) ∙ ap (drop n) (s.here ∙ append_assoc a b s.rest) ∙ drop_at a (b ++ s.rest) n e;
    }

pub stands_entry : {part log : List ℕ} {p : ℕ} (i : ℕ) → i < length part → Stands part log p → at log (p + i) ≡ at part i
stands_entry {part} {log} {p} i l s = sym (get_or-drop p log i 0) ∙ ap (λ (r : List ℕ). at r i) s.here ∙ get_or-append part s.rest 0 i l

-- entry by entry
pub stands_head : (x : ℕ) (part : List ℕ) {log : List ℕ} {p : ℕ} → Stands (x ∷ part) log p → at log p ≡ x
stands_head x part {log} {p} s = ap (at log) (sym (add-zero p)) ∙ stands_entry 0 (zero-lt-suc (length part)) s

pub stands_tail : (x : ℕ) (part : List ℕ) {log : List ℕ} {p : ℕ} → Stands (x ∷ part) log p → Stands part log (suc p)
stands_tail x part {log} {p} s = record { rest = s.rest; here = ap (λ (n : ℕ). drop n log) (sym (add-one p)) ∙ sym (drop-drop 1 p log) ∙ ap (drop 1) s.here }

-- ---- put together again

pub part_cons : (log : List ℕ) (p n : ℕ) → p < length log → take (suc n) (drop p log) ≡ at log p ∷ take n (drop (suc p) log)
part_cons log p n h = ap (take (suc n)) (drop-cons log p 0 h)

pub part_join : (log : List ℕ) (p n m : ℕ) → take n (drop p log) ++ take m (drop (p + n) log) ≡ take (n + m) (drop p log)
part_join log p n m = ap (λ (r : List ℕ). take n (drop p log) ++ take m r) (sym (drop-drop n p log)) ∙ sym (take-add n m (drop p log))

-- ---- what an iterator over a list has left

pub left_next : {A : Type 0} (xs : List A) (n : ℕ) (x d : A) (rest : List A) → drop n xs ≡ x ∷ rest → (n < length xs) × (x ≡ get_or xs n d) × (rest ≡ drop (n + 1) xs)
left_next xs n x d rest e =
    let more : length xs - n ≡ suc (length rest) = sym (length-drop n xs) ∙ ap length e in (
      omega (arith, more),
      sym (ap (λ (l : List _). get_or l 0 d) e) ∙ get_or-drop n xs 0 d ∙ ap (λ (k : ℕ). get_or xs k d) (add-zero n),
      sym (ap (drop 1) e) ∙ drop-drop 1 n xs,
    )

pub left_none : {A : Type 0} (xs : List A) (n : ℕ) (rest : List A) → rest ≡ drop n xs → length rest ≡ 0 → length xs ≤ n
left_none xs n rest e z = omega (arith, length-drop n xs, ap length e, z)
