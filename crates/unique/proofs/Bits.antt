-- Two answers that meet one promise are equal: the functions that promise a number by its bits. The other functions are in `Answers`. Assumes nothing.
-- Where a promise says nothing of some bit from 32 on, the law also takes what the type says: the answers are u32, below 2 ^ 32.
use Rattle.std.specs.Prelude.{◌≡◌, refl, ◌⊎◌, ◌≢◌, Bool, true, false, List, ℕ, zero, suc, ◌+◌, ◌^◌, ◌≤◌, ◌<◌, Option, None, Some}
use Rattle.std.proofs.Common.{sym, ap, ◌∙◌, inl, inr, pow-suc, arith, pow_mono}
use Rattle.masks.specs.Paper.{bit, has, With, Without, Below, Lowest}
use Rattle.masks.specs.Ports.{NextPort}
use Rattle.masks.specs.Tests.{lt_or_ge, eq_or_ne}
use Rattle.masks.proofs.Laws as laws
use Rattle.masks.proofs.Laws.{has_on, has_off, same_bits}
use Rattle.search.specs.Problem.{Asking}

-- ---- every bit is said

below_power : (x : ℕ) → x < 2 ^ x
below_power zero = omega arith
below_power (suc x) = omega (arith, below_power x, pow-suc 2 x)

all_bits : (r s : ℕ) → ((k : ℕ) → bit r k ≡ bit s k) → r ≡ s
all_bits r s h =
    let more : 2 ^ r ≤ 2 ^ (r + s) = pow_mono (omega arith) in
    let most : 2 ^ s ≤ 2 ^ (r + s) = pow_mono (omega arith) in
    same_bits (r + s) r s (omega (arith, below_power r, more)) (omega (arith, below_power s, most)) (λ k _. h k)

-- `masks::both`, `either`, `minus`: f k is what the promise says of bit k
pub bits_unique : (f : ℕ → ℕ) (r s : ℕ) → ((k : ℕ) → bit r k ≡ f k) → ((k : ℕ) → bit s k ≡ f k) → r ≡ s
bits_unique f r s a b = all_bits r s (λ k. a k ∙ sym (b k))

-- `masks::without`
pub without_unique : (m j r s : ℕ) → Without m j r → Without m j s → r ≡ s
without_unique m j r s a b = all_bits r s (λ k. same k (eq_or_ne k j))
  where
    same : (k : ℕ) → (k ≡ j) ⊎ (k ≢ j) → bit r k ≡ bit s k
    same k (inl e) = rw e (a.here ∙ sym b.here)
    same k (inr d) = a.other k d ∙ sym (b.other k d)

-- ---- every bit below 32 is said

-- `masks::with`: bit j is said where j is below 32
pub with_unique : (m j r s : ℕ) → r < 2 ^ 32 → s < 2 ^ 32 → With m j r → With m j s → r ≡ s
with_unique m j r s hr hs a b = same_bits 32 r s hr hs (λ k l. same k l (eq_or_ne k j))
  where
    same : (k : ℕ) → k < 32 → (k ≡ j) ⊎ (k ≢ j) → bit r k ≡ bit s k
    same k l (inl e) = let h : j < 32 = omega arith in rw e (a.here h ∙ sym (b.here h))
    same k l (inr d) = a.other k d ∙ sym (b.other k d)

-- `masks::below`: a bit below n is said where it is below 32
pub below_unique : (n r s : ℕ) → r < 2 ^ 32 → s < 2 ^ 32 → Below n r → Below n s → r ≡ s
below_unique n r s hr hs a b = same_bits 32 r s hr hs (λ k l. same k l (lt_or_ge k n))
  where
    same : (k : ℕ) → k < 32 → (k < n) ⊎ (n ≤ k) → bit r k ≡ bit s k
    same k l (inl h) = a.within k h l ∙ sym (b.within k h l)
    same k l (inr h) = a.above k h ∙ sym (b.above k h)

bit_of_has : (r s k : ℕ) → has r k ≡ has s k → bit r k ≡ bit s k
bit_of_has r s k e = go (has s k) refl
  where
    go : (t : Bool) → has s k ≡ t → bit r k ≡ bit s k
    go true q = has_on r k (e ∙ q) ∙ sym (has_on s k q)
    go false q = has_off r k (e ∙ q) ∙ sym (has_off s k q)

-- `search::asking`: 32 ports are said
pub asking_unique : (rows : List ℕ) (r s : ℕ) → r < 2 ^ 32 → s < 2 ^ 32 → Asking rows r → Asking rows s → r ≡ s
asking_unique rows r s hr hs a b = same_bits 32 r s hr hs (λ k l. bit_of_has r s k (a.is k l ∙ sym (b.is k l)))

-- ---- a port

-- `masks::first`: also where m has no port, and then the answer is 32
pub lowest_unique : (m r s : ℕ) → Lowest m r → Lowest m s → r ≡ s
lowest_unique = laws.lowest_unique

-- `next` of what `masks::ports` gives: the port, and what is left
pub next_unique : (m n k : ℕ) (r s : Option ℕ) → NextPort m r n → NextPort m s k → (r ≡ s) × (n ≡ k)
next_unique m n k None None a b = (refl, a.1 ∙ sym b.1)
next_unique m n k None (Some j) a b = absurd (omega (arith, a.0, b.some))
next_unique m n k (Some i) None a b = absurd (omega (arith, b.0, a.some))
next_unique m n k (Some i) (Some j) a b =
    let e : i ≡ j = lowest_unique m i j a.lowest b.lowest in
    (ap Some e, without_unique m i n k a.others (rw (sym e) at b.others))
