-- The laws of `bit`. Nearly all follow from two: digit 0 is the rest by 2, and digit k + 1 of x is digit k of x / 2. Assumes nothing.
use Rattle.std.specs.Prelude.{◌≡◌, refl, ◌⊎◌, ◌≢◌, ℕ, zero, suc, ◌+◌, ◌-◌, ◌*◌, ◌/◌, ◌%◌, ◌^◌, ◌≤◌, ◌<◌, min, max, true, false, eqb}
use Rattle.std.proofs.Common.{sym, ap, ◌∙◌, inl, inr, mod-lt, div-one, pow-suc, one-mul, lt_of_lt_of_le, one-add, arith, eqb-true, eq-eqb, ne_eqb, lit<, pow_pos, pow_mono, shr-shr, shl_exact}
use Rattle.std.proofs.Math.Nat.{div_self, div-eq_of_lt}
use Rattle.std.proofs.Math.Decide.{dec_lt}
use Rattle.std.proofs.lemmas.Bool.{eqb-false}
use Rattle.std.proofs.Math.Pow.{pow-lt, ones_lt}
use Rattle.std.proofs.lemmas.Nat.{and_mask, and_shr, or_shr, trailing_le}
use Rattle.std.specs.Int.Bits.{bit_and, bit_or, and_step, or_step}
use Rattle.std.specs.Int.Count.{count_trailing_zeros, under, trailing_of_zero}
use Rattle.masks.specs.Paper.{bit, has, With, Without, Below, Lowest}
use Rattle.masks.specs.Tests.{eq_or_ne}

pub bit_lt : (x k : ℕ) → bit x k < 2
unfolding bit
bit_lt x k = mod-lt (x / 2 ^ k) (lit< tt)

pub bit_zero : (x : ℕ) → bit x 0 ≡ x % 2
unfolding bit
bit_zero x = ap (λ (y : ℕ). y % 2) (div-one x)

pub bit_suc : (x k : ℕ) → bit x (suc k) ≡ bit (x / 2) k
unfolding bit
bit_suc x k = sym (ap (λ (y : ℕ). y % 2) (shr-shr x 1 k ∙ ap (λ (i : ℕ). x / 2 ^ i) (one-add k)))

pub bit_of_zero : (k : ℕ) → bit 0 k ≡ 0
bit_of_zero zero = bit_zero 0
bit_of_zero (suc k) = bit_suc 0 k ∙ bit_of_zero k

-- ---- the test

pub has_on : (x k : ℕ) → has x k ≡ true → bit x k ≡ 1
has_on x k e = eqb-true (bit x k) 1 e

pub has_off : (x k : ℕ) → has x k ≡ false → bit x k ≡ 0
has_off x k e = omega (arith, eqb-false (bit x k) 1 e, bit_lt x k)

pub on_has : (x k : ℕ) → bit x k ≡ 1 → has x k ≡ true
on_has x k e = eq-eqb (bit x k) 1 e

pub off_has : (x k : ℕ) → bit x k ≡ 0 → has x k ≡ false
off_has x k e = ne_eqb (bit x k) 1 (λ q. absurd (omega arith))

-- ---- and, or
and_odd : (a b : ℕ) → bit_and a b % 2 ≡ min (a % 2) (b % 2)
and_odd a b = omega (arith, and_step a b)

pub bit_and_lem : (a b k : ℕ) → bit (bit_and a b) k ≡ min (bit a k) (bit b k)
unfolding bit
bit_and_lem a b k = ap (λ (x : ℕ). x % 2) (and_shr a b k) ∙ and_odd (a / 2 ^ k) (b / 2 ^ k)

or_odd : (a b : ℕ) → bit_or a b % 2 ≡ max (a % 2) (b % 2)
or_odd a b = omega (arith, or_step a b)

pub bit_or_lem : (a b k : ℕ) → bit (bit_or a b) k ≡ max (bit a k) (bit b k)
unfolding bit
bit_or_lem a b k = ap (λ (x : ℕ). x % 2) (or_shr a b k) ∙ or_odd (a / 2 ^ k) (b / 2 ^ k)

-- ---- not, at n digits
pub bit_not : (n b k : ℕ) → b < 2 ^ n → k < n → bit ((2 ^ n - 1) - b) k ≡ 1 - bit b k
bit_not zero b k h l = absurd (omega arith)
bit_not (suc n) b zero h l = omega (arith, bit_zero b, bit_zero ((2 ^ suc n - 1) - b), pow-suc 2 n)
bit_not (suc n) b (suc k) h l =
    let e : ((2 ^ suc n - 1) - b) / 2 ≡ (2 ^ n - 1) - b / 2 = omega (arith, pow-suc 2 n) in
    bit_suc ((2 ^ suc n - 1) - b) k ∙ ap (λ (x : ℕ). bit x k) e ∙ bit_not n (b / 2) k (omega (arith, pow-suc 2 n)) (omega arith)
    ∙ ap (λ (x : ℕ). 1 - x) (sym (bit_suc b k))

-- ---- a number of n digits has none at n or above
pub bit_high : (x n k : ℕ) → x < 2 ^ n → n ≤ k → bit x k ≡ 0
unfolding bit
bit_high x n k h l = ap (λ (y : ℕ). y % 2) (div-eq_of_lt (lt_of_lt_of_le h (pow_mono l)))

pub bit_inside : (x n k : ℕ) → x < 2 ^ n → bit x k ≡ 1 → k < n
bit_inside x n k h e = elim (dec_lt k n) [ yes l ↦ l | no l ↦ absurd (omega (arith, bit_high x n k h (omega arith))) ]

-- ---- one digit
shl_one : (j : ℕ) → j < 32 → (1 * 2 ^ j) % 2 ^ 32 ≡ 2 ^ j
shl_one j h = shl_exact 1 j 32 (lit< tt) (omega arith) ∙ one-mul (2 ^ j)

one_same : (j : ℕ) → bit (2 ^ j) j ≡ 1
unfolding bit
one_same j = ap (λ (y : ℕ). y % 2) (div_self (pow_pos j))

one_other : (j k : ℕ) → (k ≡ j → ⊥) → bit (2 ^ j) k ≡ 0
one_other zero zero h = absurd (h refl)
one_other zero (suc k) h = bit_suc 1 k ∙ bit_of_zero k
one_other (suc j) zero h = omega (arith, bit_zero (2 ^ suc j), pow-suc 2 j)
one_other (suc j) (suc k) h =
    let e : 2 ^ suc j / 2 ≡ 2 ^ j = omega (arith, pow-suc 2 j) in
    bit_suc (2 ^ suc j) k ∙ ap (λ (x : ℕ). bit x k) e ∙ one_other j k (λ q. h (ap suc q))

-- ---- the n lowest digits
ones_in : (n k : ℕ) → k < n → bit (2 ^ n - 1) k ≡ 1
ones_in n k l =
    let e : 2 ^ n - 1 ≡ (2 ^ n - 1) - 0 = omega arith in
    ap (λ (x : ℕ). bit x k) e ∙ bit_not n 0 k (pow_pos n) l ∙ ap (λ (x : ℕ). 1 - x) (bit_of_zero k)

ones_out : (n k : ℕ) → n ≤ k → bit (2 ^ n - 1) k ≡ 0
ones_out n k l = bit_high (2 ^ n - 1) n k (ones_lt n) l

-- ---- two numbers of n digits are equal by their digits
pub same_bits : (n x y : ℕ) → x < 2 ^ n → y < 2 ^ n → ((k : ℕ) → k < n → bit x k ≡ bit y k) → x ≡ y
same_bits zero x y hx hy h = omega arith
same_bits (suc n) x y hx hy h =
    let e : x / 2 ≡ y / 2 = same_bits n (x / 2) (y / 2) (omega (arith, pow-suc 2 n)) (omega (arith, pow-suc 2 n))
    (λ k l. sym (bit_suc x k) ∙ h (suc k) (omega arith) ∙ bit_suc y k) in
    omega (arith, bit_zero x, bit_zero y, h 0 (omega arith))

pub no_bits : (n x : ℕ) → x < 2 ^ n → ((k : ℕ) → k < n → bit x k ≡ 0) → x ≡ 0
no_bits n x hx h = same_bits n x 0 hx (pow_pos n) (λ k l. h k l ∙ sym (bit_of_zero k))

-- a number with no digit at m or above is below 2 ^ m
pub high_none : (n m x : ℕ) → x < 2 ^ n → ((k : ℕ) → m ≤ k → k < n → bit x k ≡ 0) → x < 2 ^ m
high_none n zero x hx h = let e = no_bits n x hx (λ k l. h k (omega arith) l) in omega arith
high_none zero (suc m) x hx h = omega (arith, pow_pos (suc m))
high_none (suc n) (suc m) x hx h =
    let r = high_none n m (x / 2) (omega (arith, pow-suc 2 n)) (λ k l u. sym (bit_suc x k) ∙ h (suc k) (omega arith) (omega arith)) in
    omega (arith, pow-suc 2 m)

-- ---- the lowest digit set, of n
record LowestOf (n x t : ℕ) : Type 0 where
  inside : t < n
  here : bit x t ≡ 1
  none_below : (k : ℕ) → k < t → bit x k ≡ 0

lowest_by : (n x d t : ℕ) → x % 2 ≡ d → (d ≡ 0 → LowestOf n (x / 2) t) → LowestOf (suc n) x (under d t)
lowest_by n x zero t e r = record { inside = omega (arith, (r refl).inside); here = bit_suc x t ∙ (r refl).here; none_below = below }
  where
    below : (k : ℕ) → k < suc t → bit x k ≡ 0
    below zero l = bit_zero x ∙ e
    below (suc k) l = bit_suc x k ∙ (r refl).none_below k (omega arith)
lowest_by n x (suc d) t e r = record { inside = omega arith; here = omega (arith, bit_zero x); none_below = λ k l. absurd (omega arith) }

trailing_lowest : (n x : ℕ) → x < 2 ^ n → 0 < x → LowestOf n x (count_trailing_zeros n x)
unfolding count_trailing_zeros
trailing_lowest zero x h p = absurd (omega arith)
trailing_lowest (suc n) x h p =
    lowest_by n x (x % 2) (count_trailing_zeros n (x / 2)) refl (λ e. trailing_lowest n (x / 2) (omega (arith, pow-suc 2 n)) (omega arith))

-- ---- WHAT THE MACHINE COMPUTES, as `Paper.antt` has it

-- `a & !b`, at n digits
pub bit_minus : (n a b k : ℕ) → a < 2 ^ n → b < 2 ^ n → bit (bit_and a ((2 ^ n - 1) - b)) k ≡ bit a k - bit b k
bit_minus n a b k ha hb =
    elim (dec_lt k n) [
      | yes l ↦ omega (arith, bit_and_lem a ((2 ^ n - 1) - b) k, bit_not n b k hb l, bit_lt a k, bit_lt b k)
      | no l ↦ omega (arith, bit_and_lem a ((2 ^ n - 1) - b) k, bit_high a n k ha (omega arith))
    ]

-- `(m >> j) & 1 == 1`
pub has_law : (m j : ℕ) → eqb (bit_and (m / 2 ^ j) 1) 1 ≡ has m j
unfolding bit
has_law m j = ap (λ (x : ℕ). eqb x 1) (and_mask (m / 2 ^ j) 1)

-- `m | (1 << j)`
pub with_law : (m j : ℕ) → j < 32 → With m j (bit_or m ((1 * 2 ^ j) % 2 ^ 32))
with_law m j h =
    rw (shl_one j h) (record {
      here = λ _. omega (arith, bit_or_lem m (2 ^ j) j, one_same j, bit_lt m j);
      other = λ k d. omega (arith, bit_or_lem m (2 ^ j) k, one_other j k d);
    })

-- `m & !(1 << j)`
pub without_law : (m j : ℕ) → m < 2 ^ 32 → j < 32 → Without m j (bit_and m ((2 ^ 32 - 1) - (1 * 2 ^ j) % 2 ^ 32))
without_law m j hm h =
    let l : 2 ^ j < 2 ^ 32 = pow-lt h in
    rw (shl_one j h) (record {
      here = omega (arith, bit_minus 32 m (2 ^ j) j hm l, one_same j, bit_lt m j);
      other = λ k d. omega (arith, bit_minus 32 m (2 ^ j) k hm l, one_other j k d);
    })

-- a port of 32 or more: the set as it was
pub with_none : (m j : ℕ) → 32 ≤ j → With m j m
with_none m j h = record { here = λ l. absurd (omega arith); other = λ k d. refl }

pub without_none : (m j : ℕ) → m < 2 ^ 32 → 32 ≤ j → Without m j m
without_none m j hm h = record { here = bit_high m 32 j hm h; other = λ k d. refl }

-- `(1 << n) - 1`, and all ones
pub below_law : (n : ℕ) → n < 32 → Below n ((1 * 2 ^ n) % 2 ^ 32 - 1)
below_law n h = rw (shl_one n h) (record { within = λ k l _. ones_in n k l; above = ones_out n })

pub below_fits : (n : ℕ) → n < 32 → 1 ≤ (1 * 2 ^ n) % 2 ^ 32
below_fits n h = rw (shl_one n h) (pow_pos n)

pub below_all : (n : ℕ) → 32 ≤ n → Below n (2 ^ 32 - 1)
below_all n h = record { within = λ k _ l. ones_in 32 k l; above = λ k l. ones_out 32 k (omega arith) }

-- `trailing_zeros(m)`
pub lowest_law : (m : ℕ) → m < 2 ^ 32 → Lowest m (count_trailing_zeros 32 m)
lowest_law m h = elim (dec_lt 0 m) [
  | yes p ↦ (let t = trailing_lowest 32 m h p in record { top = trailing_le 32 m; inside = λ _. t.inside; here = λ _. t.here; none_below = t.none_below })
  | no p ↦ (
      let z : m ≡ 0 = omega arith in
      let e : count_trailing_zeros 32 m ≡ 32 = ap (count_trailing_zeros 32) z ∙ trailing_of_zero 32 in
      record {
        top = trailing_le 32 m;
        inside = λ q. absurd (p q);
        here = λ l. absurd (omega arith);
        none_below = λ k l. ap (λ (x : ℕ). bit x k) z ∙ bit_of_zero k;
      })
]

-- ---- uniqueness of the answers

pub lowest_unique : (m r s : ℕ) → Lowest m r → Lowest m s → r ≡ s
lowest_unique m r s a b = elim (dec_lt r s) [
  | yes l ↦ absurd (omega (arith, b.none_below r l, a.here (omega (arith, b.top))))
  | no g ↦ elim (dec_lt s r) [
    | yes l ↦ absurd (omega (arith, a.none_below s l, b.here (omega (arith, a.top))))
    | no k ↦ omega arith
  ]
]

-- ---- a port above those of a set: the set, as a number, grows by 2 ^ j

bit_above : (j m : ℕ) → m < 2 ^ j → (k : ℕ) → bit (m + 2 ^ j) k ≡ max (bit m k) (bit (2 ^ j) k)
bit_above zero m h k =
    let z : m ≡ 0 = omega arith in
    rw z (omega (arith, bit_of_zero k, ap (λ (y : ℕ). bit y k) (let o : 0 + 2 ^ 0 ≡ 2 ^ 0 = omega arith in o)))
bit_above (suc j) m h zero = omega (arith, bit_zero (m + 2 ^ suc j), bit_zero m, bit_zero (2 ^ suc j))
bit_above (suc j) m h (suc k) =
    let e : (m + 2 ^ suc j) / 2 ≡ m / 2 + 2 ^ j = omega arith in
    let g : 2 ^ suc j / 2 ≡ 2 ^ j = omega arith in
    omega (arith, bit_suc (m + 2 ^ suc j) k, bit_suc m k, bit_suc (2 ^ suc j) k, bit_above j (m / 2) (omega arith) k, ap (λ (y : ℕ). bit y k) e, ap (λ (y : ℕ). bit y k) g)

pub with_above : (m j r : ℕ) → j < 32 → m < 2 ^ j → r < 2 ^ 32 → With m j r → r ≡ m + 2 ^ j
with_above m j r l h fits w =
    let top : 2 ^ suc j ≤ 2 ^ 32 = pow_mono l in
    same_bits 32 r (m + 2 ^ j) fits (omega arith) (λ k _. at k (eq_or_ne k j))
  where
    at : (k : ℕ) → (k ≡ j) ⊎ (k ≢ j) → bit r k ≡ bit (m + 2 ^ j) k
    at k (inl e) = rw e (omega (arith, w.here l, bit_above j m h j, one_same j, bit_lt m j))
    at k (inr d) = omega (arith, w.other k d, bit_above j m h k, one_other j k d)
