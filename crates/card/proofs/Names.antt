-- A mask that names ports below n alone: what the code computes, and the same as a bound on the number. Assumes nothing.
use Rattle.std.specs.Prelude.{◌≡◌, ℕ, ◌-◌, ◌^◌, ◌<◌, ◌≤◌, true, not, ◌||◌, ◌⊎◌, ◌==◌, nat_lt}
use Rattle.std.proofs.Common.{ap, inl, inr, arith, eqb-true, eq-eqb, lt-ltb, ltb-true}
use Rattle.std.proofs.lemmas.Bool.{not-true}
use Rattle.masks.specs.Paper.{bit, has, Below}
use Rattle.masks.specs.Tests.{lt_or_ge, or_left, or_right, or_either, same_test, every_at, at_every}
use Rattle.masks.proofs.Laws.{bit_of_zero, bit_high, has_off, off_has, no_bits, high_none}
use Rattle.card.specs.Paper.{ports, names_below}

-- port by port
pub names_at : (n x : ℕ) → names_below n x ≡ true → (j : ℕ) → n ≤ j → j < ports → bit x j ≡ 0
unfolding names_below
names_at n x e j h l = go (or_either _ _ (every_at ports _ e j l))
  where
    go : (nat_lt j n ≡ true) ⊎ (not (has x j) ≡ true) → bit x j ≡ 0
    go (inl q) = absurd (omega (arith, ltb-true j n q))
    go (inr q) = has_off x j (not-true _ q)

pub at_names : (n x : ℕ) → ((j : ℕ) → n ≤ j → j < ports → bit x j ≡ 0) → names_below n x ≡ true
unfolding names_below
at_names n x h = at_every ports _ (λ j l. go j l (lt_or_ge j n))
  where
    go : (j : ℕ) → j < ports → (j < n) ⊎ (n ≤ j) → (nat_lt j n || not (has x j)) ≡ true
    go j l (inl q) = or_left (not (has x j)) (lt-ltb j n q)
    go j l (inr q) = or_right (nat_lt j n) (ap not (off_has x j (h j q l)))

-- `mask & !below(n) == 0`
pub names_law : (n x b r : ℕ) → Below n b → ((k : ℕ) → bit r k ≡ bit x k - bit b k) → r < 2 ^ 32 → (r == 0) ≡ names_below n x
names_law n x b r low cut fits =
    same_test
    (λ e. at_names n x (λ j h l. omega (arith, cut j, low.above j h, ap (λ (y : ℕ). bit y j) (eqb-true r 0 e), bit_of_zero j)))
    (λ e. eq-eqb r 0 (no_bits 32 r fits (λ k l. none e k l (lt_or_ge k n))))
  where
    none : names_below n x ≡ true → (k : ℕ) → k < 32 → (k < n) ⊎ (n ≤ k) → bit r k ≡ 0
    none e k l (inl q) = omega (arith, cut k, low.within k q l, bit_small x k)
      where
        bit_small : (x k : ℕ) → bit x k ≤ 1
        bit_small x k = omega (arith, Rattle.masks.proofs.Laws.bit_lt x k)
    none e k l (inr q) = omega (arith, cut k, names_at n x e k q l)

-- as a bound
pub names_lt : (n x : ℕ) → x < 2 ^ 32 → names_below n x ≡ true → x < 2 ^ n
names_lt n x fits e = high_none 32 n x fits (λ k h l. names_at n x e k h l)

pub lt_names : (n x : ℕ) → x < 2 ^ n → names_below n x ≡ true
lt_names n x h = at_names n x (λ j g _. bit_high x n j h g)
