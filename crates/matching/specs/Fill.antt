-- A list of n numbers that a loop goes through from the front: f k at each place k passed, and what stood there, or 0, behind them. Assumes nothing.
use Rattle.std.specs.Prelude.{◌≡◌, refl, ◌⊎◌, ◌≢◌, Bool, true, false, cond, List, ℕ, ◌+◌, ◌≤◌, ◌<◌, length, set, replicate, ltb}
use Rattle.std.proofs.Common.{sym, ◌∙◌, inl, inr, arith, lt-ltb, le-ltb, length-set, get_or-set_same, get_or-set_other, ext_get_or}
use Rattle.std.proofs.lemmas.List.{length-replicate, get_or-replicate}
use Rattle.masks.specs.Paper.{keep}
use Rattle.masks.specs.Tests.{lt_or_ge, eq_or_ne}
use Rattle.matches.specs.Paper.{at, tab}
use Rattle.matches.proofs.Lists.{length_tab, get_or_tab, tab_cong}

-- the first i places have f, and those behind them still g
unfoldable pub passed : (n i : ℕ) → (f g : ℕ → ℕ) → List ℕ
passed n i f g = tab n (λ k. cond (ltb k i) (f k) (g k))

length_passed : (n i : ℕ) (f g : ℕ → ℕ) → length (passed n i f g) ≡ n
unfolding passed
length_passed n i f g = length_tab n _

passed_in : (n i : ℕ) (f g : ℕ → ℕ) (k : ℕ) → k < n → k < i → at (passed n i f g) k ≡ f k
unfolding passed
passed_in n i f g k l h = get_or_tab n _ k 0 l ∙ rw (lt-ltb k i h)

pub passed_here : (n i : ℕ) (f g : ℕ → ℕ) (k : ℕ) → k < n → i ≤ k → at (passed n i f g) k ≡ g k
unfolding passed
passed_here n i f g k l h = get_or_tab n _ k 0 l ∙ rw (le-ltb k i h)

-- nothing is passed yet
pub passed_none : (n : ℕ) (f : ℕ → ℕ) (l : List ℕ) → length l ≡ n → l ≡ passed n 0 f (at l)
passed_none n f l e =
    ext_get_or 0 l (passed n 0 f (at l)) (e ∙ sym (length_passed n 0 f (at l))) (λ k h. sym (passed_here n 0 f (at l) k (omega (arith, e)) (omega arith)))

-- one place more, in the form of a loop's counter
pub passed_step : (n i : ℕ) (f g : ℕ → ℕ) (l : List ℕ) (v : ℕ) → i < n → l ≡ passed n i f g → v ≡ f i → set l i v ≡ passed n (i + 1) f g
passed_step n i f g l v h e q = rw (e, q) (ext_get_or 0 (set (passed n i f g) i (f i)) (passed n (i + 1) f g) (long ∙ sym (length_passed n (i + 1) f g))
    (λ k b. place k (omega (arith, long)) (eq_or_ne k i) (lt_or_ge k i)))
  where
    long : length (set (passed n i f g) i (f i)) ≡ n
    long = length-set (passed n i f g) i (f i) ∙ length_passed n i f g

    place : (k : ℕ) → k < n → (k ≡ i) ⊎ (k ≢ i) → (k < i) ⊎ (i ≤ k) → at (set (passed n i f g) i (f i)) k ≡ at (passed n (i + 1) f g) k
    place k b (inl z) _ = rw z (get_or-set_same (passed n i f g) i (f i) 0 (omega (arith, length_passed n i f g)) ∙ sym (passed_in n (i + 1) f g i h (omega arith)))
    place k b (inr d) (inl t) = get_or-set_other (passed n i f g) i k (f i) 0 d ∙ passed_in n i f g k b t ∙ sym (passed_in n (i + 1) f g k b (omega arith))
    place k b (inr d) (inr t) = get_or-set_other (passed n i f g) i k (f i) 0 d ∙ passed_here n i f g k b t ∙ sym (passed_here n (i + 1) f g k b (omega (arith, d)))

-- all places
pub passed_all : (n : ℕ) (f g : ℕ → ℕ) → passed n n f g ≡ tab n f
unfolding passed
passed_all n f g = tab_cong n _ f (λ k l. rw (lt-ltb k n l))

-- the first i places are filled, and 0 stands behind them
unfoldable pub filled : (n i : ℕ) → (ℕ → ℕ) → List ℕ
filled n i f = tab n (λ k. keep (ltb k i) (f k))

filled_passed : (n i : ℕ) (f : ℕ → ℕ) → filled n i f ≡ passed n i f (λ k. 0)
unfolding filled passed
filled_passed n i f = tab_cong n _ _ (λ k l. kept (ltb k i) (f k))
  where
    kept : (b : Bool) (x : ℕ) → keep b x ≡ cond b x 0
    kept true x = refl
    kept false x = refl

pub filled_none : (n : ℕ) (f : ℕ → ℕ) → replicate n 0 ≡ filled n 0 f
filled_none n f =
    ext_get_or 0 (replicate n 0) (passed n 0 f (λ k. 0)) (length-replicate n 0 ∙ sym (length_passed n 0 f (λ k. 0)))
    (λ k l. let h : k < n = omega (arith, length-replicate {A = ℕ} n 0) in get_or-replicate n k 0 0 h ∙ sym (passed_here n 0 f (λ k. 0) k h (omega arith)))
    ∙ sym (filled_passed n 0 f)

-- one place more, in the form of a loop's counter
pub filled_step : (n i : ℕ) (f : ℕ → ℕ) (l : List ℕ) (v : ℕ) → i < n → l ≡ filled n i f → v ≡ f i → set l i v ≡ filled n (i + 1) f
filled_step n i f l v h e q = passed_step n i f (λ k. 0) l v h (e ∙ filled_passed n i f) q ∙ sym (filled_passed n (i + 1) f)

-- all places
pub filled_all : (n : ℕ) (f : ℕ → ℕ) → filled n n f ≡ tab n f
filled_all n f = filled_passed n n f ∙ passed_all n f (λ k. 0)
