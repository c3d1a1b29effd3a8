-- What a mask is, and what the functions on masks promise. This file is what a reader must believe. Assumes nothing.
-- Document 01: "A hold is a 32-bit mask of outputs"; "each row a 32-bit mask"; "a mask of the inputs whose arrival was dropped".
use Rattle.std.specs.Prelude.{◌≡◌, Bool, true, false, ◌&&◌, ◌||◌, ℕ, zero, suc, ◌+◌, ◌/◌, ◌%◌, ◌^◌, ◌≤◌, ◌<◌, eqb}

-- binary digit k of x, 0 or 1: port k is in the set x where it is 1
unfoldable pub bit : ℕ → ℕ → ℕ
bit x k = x / 2 ^ k % 2

-- the same as a test
abbrev pub has : ℕ → ℕ → Bool
has x k = eqb (bit x k) 1

-- n where the test holds, and else 0
abbrev pub keep : Bool → ℕ → ℕ
keep true n = n
keep false n = 0

-- each of b 0, b 1, .., b (n − 1) holds
unfoldable pub every : ℕ → (ℕ → Bool) → Bool
every zero b = true
every (suc n) b = every n b && b n

-- one of b 0, b 1, .., b (n − 1) holds
unfoldable pub some : ℕ → (ℕ → Bool) → Bool
some zero b = false
some (suc n) b = some n b || b n

-- f 0 + f 1 + .. + f (n − 1)
unfoldable pub sum : ℕ → (ℕ → ℕ) → ℕ
sum zero f = zero
sum (suc n) f = sum n f + f n

-- WHAT THE FUNCTIONS PROMISE: each says of every bit of its answer r what it is, so that two answers are equal (`Laws.same_bits`).

-- r is m and port j
pub record With (m j r : ℕ) : Type 0 where
  pub here : j < 32 → bit r j ≡ 1
  pub other : (k : ℕ) → (k ≡ j → ⊥) → bit r k ≡ bit m k

-- r is m without port j
pub record Without (m j r : ℕ) : Type 0 where
  pub here : bit r j ≡ 0
  pub other : (k : ℕ) → (k ≡ j → ⊥) → bit r k ≡ bit m k

-- r has the ports below n, and no other
pub record Below (n r : ℕ) : Type 0 where
  pub within : (k : ℕ) → k < n → k < 32 → bit r k ≡ 1
  pub above : (k : ℕ) → n ≤ k → bit r k ≡ 0

-- r is the lowest port of m, or 32 where m has none
pub record Lowest (m r : ℕ) : Type 0 where
  pub top : r ≤ 32
  pub inside : 0 < m → r < 32
  pub here : r < 32 → bit m r ≡ 1
  pub none_below : (k : ℕ) → k < r → bit m k ≡ 0
