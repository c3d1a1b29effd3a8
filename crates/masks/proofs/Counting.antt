-- The number of ports of a set, `sum 32 (bit m)`: what a loop over a set counts down. Assumes nothing.
use Rattle.std.specs.Prelude.{◌≡◌, ℕ, zero, suc, ◌+◌, ◌/◌, ◌^◌, ◌≤◌, ◌<◌}
use Rattle.std.proofs.Common.{sym, ap, ap₂, ◌∙◌, pow-suc, arith}
use Rattle.std.specs.Int.Count.{ones, ones_step}
use Rattle.masks.specs.Paper.{bit, sum, With, Without}
use Rattle.masks.specs.Sum.{sum_cong, sum_head, sum_change, sum_le, sum_at}
use Rattle.masks.proofs.Laws.{bit_lt, bit_zero, bit_suc, no_bits}

-- `count_ones(x)`, at n digits
pub ones_sum : (n x : ℕ) → x < 2 ^ n → ones x ≡ sum n (bit x)
unfolding ones sum
ones_sum zero x h = let e : x ≡ 0 = omega arith in ap ones e
ones_sum (suc n) x h =
    ones_step x
    ∙ ap₂ (λ (a b : ℕ). a + b) (sym (bit_zero x))
    (ones_sum n (x / 2) (omega (arith, pow-suc 2 n)) ∙ sum_cong n (bit (x / 2)) (λ k. bit x (suc k)) (λ k l. sym (bit_suc x k)))
    ∙ sym (sum_head n (bit x))

-- one port less, and one more
pub count_without : (n m j r : ℕ) → j < n → bit m j ≡ 1 → Without m j r → sum n (bit r) + 1 ≡ sum n (bit m)
count_without n m j r l b w = omega (arith, sum_change n (bit r) (bit m) j l (λ k _ d. w.other k d), w.here)

pub count_with : (n m j r : ℕ) → j < n → j < 32 → bit m j ≡ 0 → With m j r → sum n (bit r) ≡ sum n (bit m) + 1
count_with n m j r l u b w = omega (arith, sum_change n (bit r) (bit m) j l (λ k _ d. w.other k d), w.here u)

pub count_le : (n m : ℕ) → sum n (bit m) ≤ n
count_le n m = omega (arith, sum_le n 1 (bit m) (λ k l. omega (arith, bit_lt m k)))

pub count_none : (n m : ℕ) → m < 2 ^ n → sum n (bit m) ≡ 0 → m ≡ 0
count_none n m h e = no_bits n m h (λ k l. omega (arith, sum_at n (bit m) k l))
