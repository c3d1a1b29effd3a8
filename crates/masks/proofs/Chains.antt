-- What an iterator's `all`, `fold` and `count` say of a test over places, and which items stand in a zip of lists of one length. Assumes nothing.
use Rattle.std.specs.Prelude.{◌≡◌, refl, Bool, true, false, ◌&&◌, cond, List, [], ◌∷◌, ℕ, zero, suc, ◌+◌, ◌<◌, length, get_or}
use Rattle.std.specs.Bool.{MatchBool}
use Rattle.std.specs.List.{AllWithin, HoldsAt, fold, zip, range_with_len, sum_by, count_by}
use Rattle.std.proofs.Common.{sym, ◌∙◌, ap, arith}
use Rattle.std.proofs.lemmas.List.Sums.{sum_by-cons}
use Rattle.std.proofs.lemmas.Slice.Zip.{length-zip, get_or-zip}
use Rattle.std.proofs.lemmas.List.FromFn.{length-range_with_len, get_or-range_with_len}
use Rattle.masks.specs.Paper.{every, keep, sum}
use Rattle.masks.specs.Sum.{sum_cong, sum_head}
use Rattle.masks.specs.Tests.{every_none, every_cong, every_at, at_every, off, clash}

-- where item k of the chain passes the test t exactly if place k passes b
pub every_of_all : {X : Type 0} (b : ℕ → Bool) (t : X → Bool) (xs : List X) (n : ℕ) (d : X) → length xs ≡ n → ((k : ℕ) → k < n → t (get_or xs k d) ≡ b k) → (r : Bool)
    → MatchBool r (AllWithin (λ x. t x ≡ true) xs 0 (length xs)) ((k : ℕ) × (k < length xs) × HoldsAt (λ x. t x ≡ false) xs k) → r ≡ every n b
every_of_all b t xs n d e at true h = sym (at_every n b (λ k l. sym (at k l) ∙ h k d (omega arith) (omega (arith, e))))
every_of_all b t xs n d e at false h = sym (off (λ q. clash (every_at n b q h.0 (omega (arith, e, h.1))) (sym (at h.0 (omega (arith, e, h.1))) ∙ h.2 d)))

-- ---- a fold that tests every item

again : (x y z : Bool) → ((x && y) && z) ≡ (x && (y && z))
again true y z = refl
again false y z = refl

right : (x : Bool) → x ≡ (x && true)
right true = refl
right false = refl

-- the first place before the others
every_head : (n : ℕ) (b : ℕ → Bool) → every (suc n) b ≡ (b 0 && every n (λ k. b (suc k)))
unfolding every
every_head zero b = right (b 0)
every_head (suc n) b = ap (λ (t : Bool). t && b (suc n)) (every_head n b) ∙ again (b 0) (every n (λ k. b (suc k))) (b (suc n))

tested : {X : Type 0} (t : X → Bool) (ok : Bool) (xs : List X) (d : X) → fold (λ (b : Bool) (x : X). b && t x) ok xs ≡ (ok && every (length xs) (λ k. t (get_or xs k d)))
tested t ok [] d = right ok ∙ ap (λ (b : Bool). ok && b) (sym (every_none _))
tested t ok (x ∷ xs) d =
    tested t (ok && t x) xs d ∙ again ok (t x) (every (length xs) (λ k. t (get_or xs k d)))
    ∙ ap (λ (b : Bool). ok && b) (sym (every_head (length xs) (λ k. t (get_or (x ∷ xs) k d))))

-- where item k passes the test t exactly if place k passes b
pub every_of_fold : {X : Type 0} (b : ℕ → Bool) (t : X → Bool) (xs : List X) (n : ℕ) (d : X) → length xs ≡ n → ((k : ℕ) → k < n → t (get_or xs k d) ≡ b k)
    → fold (λ (ok : Bool) (x : X). ok && t x) true xs ≡ every n b
every_of_fold b t xs n d e at = tested t true xs d ∙ ap (λ (m : ℕ). every m (λ k. t (get_or xs k d))) e ∙ every_cong n _ _ at

-- the items of `xs.iter().zip(ys)`, where both have n
pub long_zip : {X Y : Type 0} (n : ℕ) (xs : List X) (ys : List Y) → length xs ≡ n → length ys ≡ n → length (zip xs ys) ≡ n
long_zip n xs ys e f = omega (arith, e, f, length-zip xs ys)

pub at_zip : {X Y : Type 0} (n : ℕ) (xs : List X) (ys : List Y) (k : ℕ) (d : X × Y) → length xs ≡ n → length ys ≡ n → k < n → get_or (zip xs ys) k d ≡ (get_or xs k d.0, get_or ys k d.1)
at_zip n xs ys k d e f l = get_or-zip xs ys k d (omega (arith, e)) (omega (arith, f))

-- the items of `(0..n).zip(xs)`: each with its place
pub long_placed : {X : Type 0} (n : ℕ) (xs : List X) → length xs ≡ n → length (zip (range_with_len 0 n) xs) ≡ n
long_placed n xs e = long_zip n (range_with_len 0 n) xs (length-range_with_len 0 n) e

pub at_placed : {X : Type 0} (n : ℕ) (xs : List X) (k : ℕ) (d : X) → length xs ≡ n → k < n → get_or (zip (range_with_len 0 n) xs) k (0, d) ≡ (k, get_or xs k d)
at_placed n xs k d e l =
    at_zip n (range_with_len 0 n) xs k (0, d) (length-range_with_len 0 n) e l ∙ ap (λ (j : ℕ). (j, get_or xs k d)) (get_or-range_with_len 0 n k 0 l ∙ omega arith)

-- `every_of_all` of a chain over items with their places
pub every_placed : {X : Type 0} (b : ℕ → Bool) (t : ℕ → X → Bool) (xs : List X) (n : ℕ) (d : X) → length xs ≡ n → ((k : ℕ) → k < n → t k (get_or xs k d) ≡ b k) → (r : Bool)
    → MatchBool r (AllWithin (λ (x : ℕ × X). t x.0 x.1 ≡ true) (zip (range_with_len 0 n) xs) 0 (length (zip (range_with_len 0 n) xs)))
    ((k : ℕ) × (k < length (zip (range_with_len 0 n) xs)) × HoldsAt (λ (x : ℕ × X). t x.0 x.1 ≡ false) (zip (range_with_len 0 n) xs) k) → r ≡ every n b
every_placed b t xs n d e at r h =
    every_of_all b (λ x. t x.0 x.1) (zip (range_with_len 0 n) xs) n (0, d) (long_placed n xs e) (λ k l. ap (λ (x : ℕ × _). t x.0 x.1) (at_placed n xs k d e l) ∙ at k l) r h

-- `every_of_fold` of a chain over items with their places
pub every_folded : {X : Type 0} (b : ℕ → Bool) (t : ℕ → X → Bool) (xs : List X) (n : ℕ) (d : X) → length xs ≡ n → ((k : ℕ) → k < n → t k (get_or xs k d) ≡ b k)
    → fold (λ (ok : Bool) (x : ℕ × X). ok && t x.0 x.1) true (zip (range_with_len 0 n) xs) ≡ every n b
every_folded b t xs n d e at =
    every_of_fold b (λ x. t x.0 x.1) (zip (range_with_len 0 n) xs) n (0, d) (long_placed n xs e) (λ k l. ap (λ (x : ℕ × _). t x.0 x.1) (at_placed n xs k d e l) ∙ at k l)

-- a sum along a list, place by place
pub sum_by_places : {X : Type 0} (f : X → ℕ) (xs : List X) (d : X) → sum_by f xs ≡ sum (length xs) (λ k. f (get_or xs k d))
unfolding sum
sum_by_places f [] d = refl
sum_by_places f (x ∷ xs) d = sum_by-cons f x xs ∙ ap (λ (n : ℕ). f x + n) (sum_by_places f xs d) ∙ sym (sum_head (length xs) (λ k. f (get_or (x ∷ xs) k d)))

-- how many items pass, place by place
pub count_by_places : {X : Type 0} (p : X → Bool) (xs : List X) (d : X) → count_by p xs ≡ sum (length xs) (λ k. keep (p (get_or xs k d)) 1)
count_by_places p xs d = sum_by_places (λ x. cond (p x) 1 0) xs d ∙ sum_cong (length xs) _ _ (λ k l. kept (p (get_or xs k d)))
  where
    kept : (b : Bool) → cond b 1 0 ≡ keep b 1
    kept true = refl
    kept false = refl
