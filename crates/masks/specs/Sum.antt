-- Sums over the numbers below a bound, and the greatest of f 0 .. f (n - 1). Assumes nothing.
use Rattle.std.specs.Prelude.{◌≡◌, refl, ◌⊎◌, ◌≢◌, not, ℕ, zero, suc, ◌+◌, ◌*◌, ◌≤◌, ◌<◌, max, ltb, eqb}
use Rattle.std.proofs.Common.{sym, ap, inl, inr, arith, le_refl, suc-mul, add-one, ltb-true, eq-eqb, ne_eqb}
use Rattle.std.proofs.Math.Arith.{le-zero}
use Rattle.masks.specs.Paper.{keep, sum}
use Rattle.masks.specs.Tests.{lt_or_ge, eq_or_ne, keep_cong, keep_lt, keep_ge}

pub sum_cong : (n : ℕ) (f g : ℕ → ℕ) → ((i : ℕ) → i < n → f i ≡ g i) → sum n f ≡ sum n g
unfolding sum
sum_cong zero f g h = refl
sum_cong (suc n) f g h = omega (arith, sum_cong n f g (λ i l. h i (omega arith)), h n (omega arith))

pub sum_mono : (n : ℕ) (f g : ℕ → ℕ) → ((i : ℕ) → i < n → f i ≤ g i) → sum n f ≤ sum n g
unfolding sum
sum_mono zero f g h = omega arith
sum_mono (suc n) f g h = omega (arith, sum_mono n f g (λ i l. h i (omega arith)), h n (omega arith))

pub sum_add : (n : ℕ) (f g : ℕ → ℕ) → sum n (λ i. f i + g i) ≡ sum n f + sum n g
unfolding sum
sum_add zero f g = refl
sum_add (suc n) f g = omega (arith, sum_add n f g)

pub sum_zero : (n : ℕ) (f : ℕ → ℕ) → ((i : ℕ) → i < n → f i ≡ 0) → sum n f ≡ 0
unfolding sum
sum_zero zero f h = refl
sum_zero (suc n) f h = omega (arith, sum_zero n f (λ i l. h i (omega arith)), h n (omega arith))

pub sum_at : (n : ℕ) (f : ℕ → ℕ) (i : ℕ) → i < n → f i ≤ sum n f
unfolding sum
sum_at zero f i l = absurd (omega arith)
sum_at (suc n) f i l = go (sum_at n f i) (eq_or_ne i n)
  where
    go : (i < n → f i ≤ sum n f) → (i ≡ n) ⊎ (i ≢ n) → f i ≤ sum n f + f n
    go r (inl e) = rw e (omega arith)
    go r (inr ne) = omega (arith, r (omega arith))

pub sum_grow : (m n : ℕ) (f : ℕ → ℕ) → m ≤ n → sum m f ≤ sum n f
unfolding sum
sum_grow m zero f h = rw (le-zero h) (le_refl _)
sum_grow m (suc n) f h = go (λ (k : m ≤ n). sum_grow m n f k) (eq_or_ne m (suc n))
  where
    go : (m ≤ n → sum m f ≤ sum n f) → (m ≡ suc n) ⊎ (m ≢ suc n) → sum m f ≤ sum n f + f n
    go r (inl e) = rw e (le_refl _)
    go r (inr ne) = omega (arith, r (omega arith))

-- one term more, in the form of a loop's counter
pub sum_step : (n : ℕ) (f : ℕ → ℕ) → sum (n + 1) f ≡ sum n f + f n
unfolding sum
sum_step n f = ap (λ (m : ℕ). sum m f) (add-one n)

pub sum_none : (f : ℕ → ℕ) → sum 0 f ≡ 0
unfolding sum
sum_none f = refl

-- the first term apart
pub sum_head : (n : ℕ) (f : ℕ → ℕ) → sum (suc n) f ≡ f zero + sum n (λ k. f (suc k))
unfolding sum
sum_head zero f = omega arith
sum_head (suc n) f = omega (arith, sum_head n f)

-- each term at most b
pub sum_le : (n b : ℕ) (f : ℕ → ℕ) → ((k : ℕ) → k < n → f k ≤ b) → sum n f ≤ n * b
unfolding sum
sum_le zero b f h = omega arith
sum_le (suc n) b f h = omega (arith, sum_le n b f (λ k l. h k (omega arith)), h n (omega arith), suc-mul n b)

-- two functions that differ at x alone
pub sum_change : (n : ℕ) (f g : ℕ → ℕ) (x : ℕ) → x < n → ((i : ℕ) → i < n → i ≢ x → f i ≡ g i) → sum n f + g x ≡ sum n g + f x
unfolding sum
sum_change zero f g x l h = absurd (omega arith)
sum_change (suc n) f g x l h = go (λ (k : x < n). sum_change n f g x k (λ i m. h i (omega arith))) (eq_or_ne x n)
  where
    go : (x < n → sum n f + g x ≡ sum n g + f x) → (x ≡ n) ⊎ (x ≢ n) → (sum n f + f n) + g x ≡ (sum n g + g n) + f x
    go r (inl e) = omega (arith, sum_cong n f g (λ i m. h i (omega arith) (omega arith)), ap f e, ap g e)
    go r (inr ne) = omega (arith, r (omega arith), h n (omega arith) (omega arith))

-- g made zero at a
abbrev pub zap : ℕ → (ℕ → ℕ) → ℕ → ℕ
zap a g j = keep (not (eqb j a)) (g j)

pub zap_same : (a : ℕ) (g : ℕ → ℕ) (j : ℕ) → j ≡ a → zap a g j ≡ 0
zap_same a g j e = rw (eq-eqb j a e)

pub zap_other : (a : ℕ) (g : ℕ → ℕ) (j : ℕ) → j ≢ a → zap a g j ≡ g j
zap_other a g j h = rw (ne_eqb j a h)

pub sum_zap : (n : ℕ) (g : ℕ → ℕ) (a : ℕ) → a < n → sum n g ≡ sum n (zap a g) + g a
sum_zap n g a l = omega (arith, sum_change n g (zap a g) a l (λ i m h. sym (zap_other a g i h)), zap_same a g a refl)

-- q sends no two of the numbers below I to one number below J
abbrev pub Inj : ℕ → ℕ → (ℕ → ℕ) → Type 0
Inj I J q = (i k : ℕ) → i < I → k < I → q i < J → q i ≡ q k → i ≡ k

-- one more index: it is kept, and what it names is taken out of g for the others
reindex_hit : (I J : ℕ) (q g : ℕ → ℕ) → Inj (suc I) J q → q I < J
    → sum I (λ i. keep (ltb (q i) J) (zap (q I) g (q i))) ≤ sum J (zap (q I) g)
    → sum I (λ i. keep (ltb (q i) J) (g (q i))) + keep (ltb (q I) J) (g (q I)) ≤ sum J g
reindex_hit I J q g inj h ih =
    let others = sum_cong I (λ i. keep (ltb (q i) J) (g (q i))) (λ i. keep (ltb (q i) J) (zap (q I) g (q i)))
    (λ i l. keep_cong (ltb (q i) J) _ _ (λ t. sym (zap_other (q I) g (q i)
    (λ e. absurd (omega (arith, inj i I (omega arith) (omega arith) (ltb-true (q i) J t) e)))))) in
    omega (arith, others, ih, sum_zap J g (q I) h, keep_lt (q I) J (g (q I)) h)

pub reindex : (I J : ℕ) (q g : ℕ → ℕ) → Inj I J q → sum I (λ i. keep (ltb (q i) J) (g (q i))) ≤ sum J g
unfolding sum
reindex zero J q g inj = omega arith
reindex (suc I) J q g inj = go (λ g'. reindex I J q g' (λ i k li lk. inj i k (omega arith) (omega arith))) (lt_or_ge (q I) J)
  where
    go : ((g' : ℕ → ℕ) → sum I (λ i. keep (ltb (q i) J) (g' (q i))) ≤ sum J g') → (q I < J) ⊎ (J ≤ q I)
        → sum I (λ i. keep (ltb (q i) J) (g (q i))) + keep (ltb (q I) J) (g (q I)) ≤ sum J g
    go ih (inl h) = reindex_hit I J q g inj h (ih (zap (q I) g))
    go ih (inr h) = omega (arith, ih g, keep_ge (q I) J (g (q I)) h)

-- ---- the greatest of f 0 .. f (n - 1), and 0 of none

unfoldable pub top : ℕ → (ℕ → ℕ) → ℕ
top zero f = zero
top (suc n) f = max (top n f) (f n)

pub top_le : (n : ℕ) (f : ℕ → ℕ) (b : ℕ) → ((i : ℕ) → i < n → f i ≤ b) → top n f ≤ b
unfolding top
top_le zero f b h = omega arith
top_le (suc n) f b h = omega (arith, top_le n f b (λ i l. h i (omega arith)), h n (omega arith))

pub top_at : (n : ℕ) (f : ℕ → ℕ) (i : ℕ) → i < n → f i ≤ top n f
unfolding top
top_at zero f i l = absurd (omega arith)
top_at (suc n) f i l = go (top_at n f i) (eq_or_ne i n)
  where
    go : (i < n → f i ≤ top n f) → (i ≡ n) ⊎ (i ≢ n) → f i ≤ max (top n f) (f n)
    go r (inl e) = rw e (omega arith)
    go r (inr ne) = omega (arith, r (omega arith))
