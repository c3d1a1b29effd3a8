-- What the inputs do in turn: a queue at a turn; the ways that a turn goes; a mask that grows by port j; a thing that only input i's turn changes; and no
-- two queues of one index. Assumes nothing.
use Rattle.std.specs.Prelude.{◌≡◌, refl, ◌⊎◌, ◌≢◌, ℕ, zero, suc, ◌+◌, ◌*◌, ◌%◌, ◌^◌, ◌≤◌, ◌<◌}
use Rattle.std.proofs.Common.{sym, ap, ◌∙◌, subst, inl, inr, mul-le-mul_right, mod-lt, arith, lit<, lt-ltb, le-ltb}
use Rattle.std.proofs.Math.Pow.{pow-lt}
use Rattle.std.proofs.lemmas.Nat.{or_lt}
use Rattle.masks.specs.Paper.{bit, With}
use Rattle.masks.specs.Tests.{lt_or_ge, eq_or_ne}
use Rattle.masks.proofs.Laws.{bit_high, with_law, with_above}
use Rattle.card.specs.declared.Card.{Card}
use Rattle.card.specs.declared.Counters.{Counters}
use Rattle.card.specs.Paper.{none, index, one_stored, one_dropped}
use Rattle.queue.specs.Paper.{stored}
use Rattle.matches.specs.Paper.{at}
use Rattle.slot.specs.Paper.{State, Taking, Leaving, queue_at, with_queue, counting, take_in, take_one, send_from, send_one}
use Rattle.slot.specs.Stretch.{index_in}
use Rattle.slot.specs.Ready.{used}
use Rattle.slot.specs.Arriving as arriving
use Rattle.slot.specs.Sending as sending

-- ---- a queue at an input's turn

-- the counters are apart from it
pub counting_queue : (f : Counters → Counters) (s : State) (k : ℕ) → queue_at (counting f s) k ≡ queue_at s k
unfolding queue_at
counting_queue f s k = refl

-- it is there, in a state t of the same size
pub here_in : (s t : State) → t.kept.card ≡ s.kept.card → (i j : ℕ) → i < s.kept.card.m → j < s.kept.card.n → index s.kept.card i j < used t
here_in s t e i j l h = subst (λ (c : Card). index s.kept.card i j < c.m * c.n) (sym e) (index_in _ _ i j l h)

-- ---- the ways that a turn goes

-- an arrival for queue k that has room, and one of input i for a queue that has not
abbrev pub with_cell : (k cell : ℕ) → Taking → Taking
with_cell k cell t = let s = t.state in record { state = counting one_stored (with_queue k (stored cell s.kept.slot (queue_at s k)) s); dropped = t.dropped }

abbrev pub with_loss : ℕ → Taking → Taking
with_loss i t = record { state = counting one_dropped t.state; dropped = t.dropped + 2 ^ i }

module _ (i k cell : ℕ) (t : Taking) where
  pub in_room : at t.state.kept.counts k < t.state.kept.card.d → take_in i k cell t ≡ with_cell k cell t
  unfolding take_in
  in_room h = rw (lt-ltb _ _ h)

  pub in_full : t.state.kept.card.d ≤ at t.state.kept.counts k → take_in i k cell t ≡ with_loss i t
  unfolding take_in
  in_full h = rw (le-ltb _ _ h)

  pub by_room : (Q : Taking → Type 0) → (at t.state.kept.counts k < t.state.kept.card.d → Q (with_cell k cell t))
      → (t.state.kept.card.d ≤ at t.state.kept.counts k → Q (with_loss i t)) → Q (take_in i k cell t)
  by_room Q f g = go (lt_or_ge (at t.state.kept.counts k) t.state.kept.card.d)
    where
      go : (at t.state.kept.counts k < t.state.kept.card.d) ⊎ (t.state.kept.card.d ≤ at t.state.kept.counts k) → Q (take_in i k cell t)
      go (inl h) = subst Q (sym (in_room h)) (f h)
      go (inr h) = subst Q (sym (in_full h)) (g h)

-- input i has an arrival for output j, or none
pub by_output : (i j cell : ℕ) (t : Taking) (Q : Taking → Type 0) → (j ≡ none → Q t) → (j ≢ none → Q (take_in i (index t.state.kept.card i j) cell t)) → Q (take_one i j cell t)
by_output i j cell t Q f g = go (eq_or_ne j none)
  where
    go : (j ≡ none) ⊎ (j ≢ none) → Q (take_one i j cell t)
    go (inl e) = subst Q (arriving.one_none i j cell t e) (f e)
    go (inr d) = subst Q (arriving.one_some i j _ cell t _ d refl refl) (g d)

-- it has the partner j, or none
pub by_partner : (i j : ℕ) (l : Leaving) (Q : Leaving → Type 0) → (j ≡ none → Q l) → (j ≢ none → Q (send_from i (index l.state.kept.card i j) l)) → Q (send_one i j l)
by_partner i j l Q f g = go (eq_or_ne j none)
  where
    go : (j ≡ none) ⊎ (j ≢ none) → Q (send_one i j l)
    go (inl e) = subst Q (sending.one_none i j l e) (f e)
    go (inr d) = subst Q (sending.one_some i j _ l _ d refl refl) (g d)

-- ---- a mask below 2 ^ j, and the one that it grows to by port j

pub clear : (m j : ℕ) → m < 2 ^ j → bit m j ≡ 0
clear m j h = bit_high m j j h (omega arith)

pub grown : (m j : ℕ) → j < 32 → m < 2 ^ j → With m j (m + 2 ^ j)
grown m j l h =
    let w = with_law m j l in
    let p : 2 ^ j < 2 ^ 32 = pow-lt l in
    subst (With m j) (with_above m j _ l h (or_lt 32 m ((1 * 2 ^ j) % 2 ^ 32) (omega arith) (mod-lt (1 * 2 ^ j) (lit< tt))) w) w

-- ---- g 0, g 1, .., g m, where only turn i, from g i to g (i + 1), makes a change

module _ {A : Type 0} (g : ℕ → A) (m i : ℕ) (h : (n : ℕ) → n < m → n ≢ i → g (suc n) ≡ g n) where
  pub before : i ≤ m → (n : ℕ) → n ≤ i → g n ≡ g 0
  before b zero l = refl
  before b (suc n) l = h n (omega arith) (omega arith) ∙ before b n (omega arith)

  pub since : (n : ℕ) → i < n → n ≤ m → g n ≡ g (suc i)
  since zero l b = absurd (omega arith)
  since (suc n) l b = go (λ (a : i < n). since n a (omega arith)) (eq_or_ne n i)
    where
      go : (i < n → g n ≡ g (suc i)) → (n ≡ i) ⊎ (n ≢ i) → g (suc n) ≡ g (suc i)
      go r (inl e) = ap (λ (k : ℕ). g (suc k)) e
      go r (inr d) = h n (omega arith) d ∙ r (omega arith)

-- ---- queue (i, j) alone has the index i·n + j

input_of : (n i j k l : ℕ) → j < n → l < n → i * n + j ≡ k * n + l → i ≡ k
input_of n i j k l a b e = go (lt_or_ge i k) (lt_or_ge k i)
  where
    go : (i < k) ⊎ (k ≤ i) → (k < i) ⊎ (i ≤ k) → i ≡ k
    go (inl h) y = absurd (omega (arith, mul-le-mul_right n h))
    go (inr x) (inl h) = absurd (omega (arith, mul-le-mul_right n h))
    go (inr x) (inr y) = omega arith

index_apart : (n i j k l : ℕ) → j < n → l < n → (k ≢ i) ⊎ (l ≢ j) → i * n + j ≢ k * n + l
index_apart n i j k l a b (inl d) e = d (sym (input_of n i j k l a b e))
index_apart n i j k l a b (inr d) e = d (omega (arith, ap (λ (x : ℕ). x * n) (input_of n i j k l a b e)))

-- a thing g that input l's turn can change by queue (l, out l) alone stays, where that is not queue (i, j)
pub turn_apart : {A : Type 0} (m n : ℕ) (out : ℕ → ℕ) → ((l : ℕ) → l < m → out l ≢ none → out l < n) → (g : ℕ → A) → (i j l : ℕ) → j < n → l < m
    → (out l ≡ none → g (suc l) ≡ g l) → (out l ≢ none → i * n + j ≢ l * n + out l → g (suc l) ≡ g l) → (l ≢ i) ⊎ (out l ≢ j) → g (suc l) ≡ g l
turn_apart m n out inside g i j l lj h quiet acts d = go (eq_or_ne (out l) none)
  where
    go : (out l ≡ none) ⊎ (out l ≢ none) → g (suc l) ≡ g l
    go (inl e) = quiet e
    go (inr e) = acts e (index_apart n i j l (out l) lj (inside l h e) d)
