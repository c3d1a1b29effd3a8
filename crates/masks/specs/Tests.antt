-- Cases on a test, what a test keeps, and a search through the numbers below a bound. Assumes nothing.
use Rattle.std.specs.Prelude.{◌≡◌, refl, ◌⊎◌, ◌≢◌, Bool, true, false, not, ◌&&◌, ◌||◌, ℕ, zero, suc, ◌+◌, ◌≤◌, ◌<◌, ltb, eqb}
use Rattle.std.proofs.Common.{sym, ap, ap₂, ◌∙◌, inl, inr, add-one, arith, ltb-true, ltb-false, eqb-true, lt-ltb, le-ltb}
use Rattle.std.proofs.lemmas.Bool.{eqb-false, not-true, not-false}
use Rattle.masks.specs.Paper.{keep, every, some}

-- ---- cases

pub cases : (b : Bool) → (b ≡ true) ⊎ (b ≡ false)
cases true = inl refl
cases false = inr refl

pub lt_or_ge : (a b : ℕ) → (a < b) ⊎ (b ≤ a)
lt_or_ge a b = go (ltb a b) refl
  where
    go : (t : Bool) → ltb a b ≡ t → (a < b) ⊎ (b ≤ a)
    go true e = inl (ltb-true a b e)
    go false e = inr (ltb-false a b e)

pub eq_or_ne : (a b : ℕ) → (a ≡ b) ⊎ (a ≢ b)
eq_or_ne a b = go (eqb a b) refl
  where
    go : (t : Bool) → eqb a b ≡ t → (a ≡ b) ⊎ (a ≢ b)
    go true e = inl (eqb-true a b e)
    go false e = inr (eqb-false a b e)

-- no test is both true and false
pub clash : {A : Type 0} {b : Bool} → b ≡ true → b ≡ false → A
clash {A} {b} t f = let z : ◌≡◌ {A = ℕ} 0 1 = cc in absurd (omega arith)

-- ---- tests joined

pub and_true : {a b : Bool} → a ≡ true → b ≡ true → (a && b) ≡ true
and_true {a} {b} p q = rw p q

pub and_both : (a b : Bool) → (a && b) ≡ true → (a ≡ true) × (b ≡ true)
and_both true b e = (refl, e)
and_both false b e = clash {b = false} e refl

pub or_left : {a : Bool} (b : Bool) → a ≡ true → (a || b) ≡ true
or_left b p = rw p

pub or_right : (a : Bool) {b : Bool} → b ≡ true → (a || b) ≡ true
or_right true q = refl
or_right false q = q

pub or_either : (a b : Bool) → (a || b) ≡ true → (a ≡ true) ⊎ (b ≡ true)
or_either true b e = inl refl
or_either false b e = inr e

pub or_neither : (a b : Bool) → (a || b) ≡ false → (a ≡ false) × (b ≡ false)
or_neither true b e = clash {b = true} refl e
or_neither false b e = (refl, e)

pub or_false : {a b : Bool} → a ≡ false → b ≡ false → (a || b) ≡ false
or_false {a} {b} p q = rw p q

-- not true, so false
pub off : {b : Bool} → (b ≡ true → ⊥) → b ≡ false
off {b} h = go (cases b)
  where
    go : (b ≡ true) ⊎ (b ≡ false) → b ≡ false
    go (inl t) = absurd (h t)
    go (inr f) = f

-- two tests that hold together are equal
pub same_test : {a b : Bool} → (a ≡ true → b ≡ true) → (b ≡ true → a ≡ true) → a ≡ b
same_test {a} {b} f g = go (cases a) (cases b)
  where
    go : (a ≡ true) ⊎ (a ≡ false) → (b ≡ true) ⊎ (b ≡ false) → a ≡ b
    go (inl x) y = rw (x, f x)
    go (inr x) (inl y) = clash (g y) x
    go (inr x) (inr y) = rw (x, y)

-- ---- a number kept by a test

pub keep_true : {b : Bool} (n : ℕ) → b ≡ true → keep b n ≡ n
keep_true n e = rw e

pub keep_false : {b : Bool} (n : ℕ) → b ≡ false → keep b n ≡ 0
keep_false n e = rw e

pub keep_le : (b : Bool) (n : ℕ) → keep b n ≤ n
keep_le true n = omega arith
keep_le false n = omega arith

pub keep_mono : (b : Bool) (m n : ℕ) → (b ≡ true → m ≤ n) → keep b m ≤ keep b n
keep_mono true m n h = h refl
keep_mono false m n h = omega arith

pub keep_bound : (b : Bool) (m n : ℕ) → (b ≡ true → m ≤ n) → keep b m ≤ n
keep_bound true m n h = h refl
keep_bound false m n h = omega arith

pub keep_cong : (b : Bool) (m n : ℕ) → (b ≡ true → m ≡ n) → keep b m ≡ keep b n
keep_cong true m n h = h refl
keep_cong false m n h = refl

pub keep_add : (b : Bool) (m n : ℕ) → keep b (m + n) ≡ keep b m + keep b n
keep_add true m n = refl
keep_add false m n = refl

pub keep_lt : (a b n : ℕ) → a < b → keep (ltb a b) n ≡ n
keep_lt a b n h = keep_true n (lt-ltb a b h)

pub keep_ge : (a b n : ℕ) → b ≤ a → keep (ltb a b) n ≡ 0
keep_ge a b n h = keep_false n (le-ltb a b h)

-- ---- a search: the first kind at some number, or the second at each

pub seek : (n : ℕ) (A B : ℕ → Type 0) → ((i : ℕ) → i < n → A i ⊎ B i) → ((i : ℕ) × (i < n) × A i) ⊎ ((i : ℕ) → i < n → B i)
seek zero A B h = inr (λ i l. absurd (omega arith))
seek (suc n) A B h = go (seek n A B (λ i l. h i (omega arith))) (h n (omega arith))
  where
    go : ((i : ℕ) × (i < n) × A i) ⊎ ((i : ℕ) → i < n → B i) → A n ⊎ B n → ((i : ℕ) × (i < suc n) × A i) ⊎ ((i : ℕ) → i < suc n → B i)
    go (inl f) d = inl (f.0, omega (arith, f.1), f.2)
    go (inr k) (inl a) = inl (n, omega arith, a)
    go (inr k) (inr b) = inr (λ i l. at i l (eq_or_ne i n))
      where
        at : (i : ℕ) → i < suc n → (i ≡ n) ⊎ (i ≢ n) → B i
        at i l (inl e) = rw e b
        at i l (inr ne) = k i (omega arith)

-- ---- each, and some, of n tests

-- one test more, in the form of a loop's counter
pub every_step : (n : ℕ) (b : ℕ → Bool) → every (n + 1) b ≡ (every n b && b n)
unfolding every
every_step n b = ap (λ (m : ℕ). every m b) (add-one n)

pub every_none : (b : ℕ → Bool) → every 0 b ≡ true
unfolding every
every_none b = refl

pub every_at : (n : ℕ) (b : ℕ → Bool) → every n b ≡ true → (i : ℕ) → i < n → b i ≡ true
unfolding every
every_at zero b e i l = absurd (omega arith)
every_at (suc n) b e i l = go (every_at n b) (and_both _ _ e) (eq_or_ne i n)
  where
    go : (every n b ≡ true → (i : ℕ) → i < n → b i ≡ true) → (every n b ≡ true) × (b n ≡ true) → (i ≡ n) ⊎ (i ≢ n) → b i ≡ true
    go r h (inl q) = rw q h.1
    go r h (inr q) = r h.0 i (omega arith)

pub at_every : (n : ℕ) (b : ℕ → Bool) → ((i : ℕ) → i < n → b i ≡ true) → every n b ≡ true
unfolding every
at_every zero b h = refl
at_every (suc n) b h = and_true (at_every n b (λ i l. h i (omega arith))) (h n (omega arith))

pub every_cong : (n : ℕ) (b c : ℕ → Bool) → ((i : ℕ) → i < n → b i ≡ c i) → every n b ≡ every n c
unfolding every
every_cong zero b c h = refl
every_cong (suc n) b c h = ap₂ ◌&&◌ (every_cong n b c (λ i l. h i (omega arith))) (h n (omega arith))

pub some_of : (n : ℕ) (b : ℕ → Bool) (i : ℕ) → i < n → b i ≡ true → some n b ≡ true
unfolding some
some_of zero b i l e = absurd (omega arith)
some_of (suc n) b i l e = go (some_of n b i) (eq_or_ne i n)
  where
    go : (i < n → b i ≡ true → some n b ≡ true) → (i ≡ n) ⊎ (i ≢ n) → (some n b || b n) ≡ true
    go r (inl q) = or_right (some n b) (rw q at e)
    go r (inr q) = or_left (b n) (r (omega arith) e)

pub some_at : (n : ℕ) (b : ℕ → Bool) → some n b ≡ true → (i : ℕ) × (i < n) × (b i ≡ true)
unfolding some
some_at zero b e = clash {b = false} e refl
some_at (suc n) b e = go (some_at n b) (or_either _ _ e)
  where
    go : (some n b ≡ true → (i : ℕ) × (i < n) × (b i ≡ true)) → (some n b ≡ true) ⊎ (b n ≡ true) → (i : ℕ) × (i < suc n) × (b i ≡ true)
    go r (inl q) = (let k = r q in (k.0, omega (arith, k.1), k.2))
    go r (inr q) = (n, omega arith, q)

-- ---- a test t, by its answer r in `if !r { return .. }`

pub failed : (r : Bool) {t : Bool} → r ≡ t → not r ≡ true → t ≡ false
failed r e n = sym e ∙ not-true r n

pub held : (r : Bool) {t : Bool} → r ≡ t → not r ≡ false → t ≡ true
held r e n = sym e ∙ not-false r n
