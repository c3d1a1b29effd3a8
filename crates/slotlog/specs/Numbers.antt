-- Numbers in a log: two and four bytes as the code takes them; what is written in n bytes is read back, and what is read from n bytes is written as
-- these bytes. Assumes nothing.
use Rattle.std.specs.Prelude.{◌≡◌, refl, List, ◌∷◌, ℕ, zero, suc, ◌+◌, ◌*◌, ◌/◌, ◌%◌, ◌^◌, ◌≤◌, ◌<◌, length, take, drop}
use Rattle.std.proofs.Common.{sym, ap, ap₂, ◌∙◌, mod-eq_of_lt, pow-suc, arith, lit<, get_or-take, get_or-drop, slice_index}
use Rattle.std.proofs.Math.Nat.{mod-one, one-le-pow}
use Rattle.std.proofs.Math.Arith.{mod-mul}
use Rattle.std.specs.Int.{w16, w32, from_le_bytes, to_le_bytes}
use Rattle.matches.specs.Paper.{at}
use Rattle.slotlog.specs.Paper.{number, bytes}
use Rattle.slotlog.specs.Parts.{Stands, stands_head, stands_tail, part_cons}

pub length_bytes : (n x : ℕ) → length (bytes n x) ≡ n
unfolding bytes
length_bytes zero x = refl
length_bytes (suc n) x = ap suc (length_bytes n (x / 256))

-- ---- two and four bytes, as std takes them from a list and makes them of a number

-- byte i of the n bytes from place p on
byte : (bs log : List ℕ) (n p i q : ℕ) → bs ≡ take n (drop p log) → i < n → q ≡ p + i → slice_index bs i ≡ at log q
byte bs log n p i q e l h = ap (λ (b : List ℕ). slice_index b i) e ∙ get_or-take n (drop p log) i 0 l ∙ get_or-drop p log i 0 ∙ ap (at log) (sym h)

pub read_two : (bs log : List ℕ) (p : ℕ) → bs ≡ take 2 (drop p log) → from_le_bytes w16 bs ≡ number 2 log p
unfolding number
read_two bs log p e =
    let b₀ = byte bs log 2 p 0 p e (lit< tt) (omega arith) in
    let b₁ = byte bs log 2 p 1 (suc p) e (lit< tt) (omega arith) in
    omega (arith, b₀, b₁)

pub read_four : (bs log : List ℕ) (p : ℕ) → bs ≡ take 4 (drop p log) → from_le_bytes w32 bs ≡ number 4 log p
unfolding number
read_four bs log p e =
    let b₀ = byte bs log 4 p 0 p e (lit< tt) (omega arith) in
    let b₁ = byte bs log 4 p 1 (suc p) e (lit< tt) (omega arith) in
    let b₂ = byte bs log 4 p 2 (suc (suc p)) e (lit< tt) (omega arith) in
    let b₃ = byte bs log 4 p 3 (suc (suc (suc p))) e (lit< tt) (omega arith) in
    omega (arith, b₀, b₁, b₂, b₃)

pub two_bytes : (x : ℕ) → to_le_bytes w16 x ≡ bytes 2 x
unfolding bytes
two_bytes x = refl

pub four_bytes : (x : ℕ) → to_le_bytes w32 x ≡ bytes 4 x
unfolding bytes
four_bytes x =
    let b₂ : x / 65536 ≡ x / 256 / 256 = omega arith in
    let b₃ : x / 16777216 ≡ x / 256 / 256 / 256 = omega arith in
    rw (b₂, b₃)

-- ---- written, then read

-- the lowest byte of n + 1, and the others
low_byte : (n x : ℕ) → x % 256 ^ suc n ≡ x % 256 + 256 * (x / 256 % 256 ^ n)
low_byte n x = ap (λ (m : ℕ). x % m) (pow-suc 256 n) ∙ mod-mul x (one-le-pow n 256 (lit< tt)) (lit< tt) ∙ omega arith

stands_number : (n x : ℕ) {log : List ℕ} {p : ℕ} → Stands (bytes n x) log p → number n log p ≡ x % 256 ^ n
unfolding number bytes
stands_number zero x s = sym (mod-one x)
stands_number (suc n) x s =
    ap₂ (λ (low high : ℕ). low + 256 * high) (stands_head (x % 256) (bytes n (x / 256)) s) (stands_number n (x / 256) (stands_tail (x % 256) (bytes n (x / 256)) s))
    ∙ sym (low_byte n x)

-- "All numbers are little endian": a number that fits its n bytes
pub number_back : (n x : ℕ) {log : List ℕ} {p : ℕ} → x < 256 ^ n → Stands (bytes n x) log p → number n log p ≡ x
number_back n x l s = stands_number n x s ∙ mod-eq_of_lt l

-- ---- read, then written

-- a list of bytes
pub record Bytes (log : List ℕ) : Type 0 where
  pub small : (i : ℕ) → at log i < 256

pub number_lt : (n : ℕ) (log : List ℕ) (p : ℕ) → Bytes log → number n log p < 256 ^ n
unfolding number
number_lt zero log p b = lit< tt
number_lt (suc n) log p b = omega (arith, number_lt n log (suc p) b, b.small p, pow-suc 256 n)

pub bytes_number : (n : ℕ) (log : List ℕ) (p : ℕ) → Bytes log → p + n ≤ length log → bytes n (number n log p) ≡ take n (drop p log)
unfolding number bytes
bytes_number zero log p b h = refl
bytes_number (suc n) log p b h =
    let low : (at log p + 256 * number n log (suc p)) % 256 ≡ at log p = omega (arith, b.small p) in
    let high : (at log p + 256 * number n log (suc p)) / 256 ≡ number n log (suc p) = omega (arith, b.small p) in
    ap₂ ◌∷◌ low (ap (bytes n) high ∙ bytes_number n log (suc p) b (omega arith)) ∙ sym (part_cons log p n (omega arith))
