-- The ports that have a request, as a mask; the weights of one side, tested by such a mask; and the length of a table. Assumes nothing.
use Rattle.std.specs.Prelude.{◌≡◌, ◌⊎◌, Bool, true, false, ◌&&◌, ◌||◌, List, ℕ, ◌+◌, ◌*◌, ◌≤◌, ◌<◌, max}
use Rattle.std.proofs.Common.{sym, ap, ap₂, ◌∙◌, inl, inr, mul-le-mul, add-one, arith}
use Rattle.masks.specs.Paper.{bit, has, every, some}
use Rattle.masks.specs.Tests.{cases, or_left, or_right, or_false, every_cong}
use Rattle.masks.proofs.Laws.{bit_lt, bit_of_zero, has_on, has_off, on_has, off_has}
use Rattle.card.specs.Paper.{ports, ports_fit}
use Rattle.card.specs.Limits.{ports_are}
use Rattle.matches.specs.Paper.{at, asks, in_asks, out_asks, weight_fits, weights_fit}

-- ---- the outputs: the union of the rows

-- x has the outputs that one of the first n inputs asks for
pub record Joined (rows : List ℕ) (n x : ℕ) : Type 0 where
  pub here : (j : ℕ) → has x j ≡ some n (λ i. asks rows i j)

pub joined_none : (rows : List ℕ) → Joined rows 0 0
unfolding some
joined_none rows = record { here = λ j. off_has 0 j (bit_of_zero j) }

-- `masks::either`, as tests
pub has_either : (x y r j : ℕ) → bit r j ≡ max (bit x j) (bit y j) → has r j ≡ (has x j || has y j)
has_either x y r j e = go (cases (has x j)) (cases (has y j))
  where
    go : (has x j ≡ true) ⊎ (has x j ≡ false) → (has y j ≡ true) ⊎ (has y j ≡ false) → has r j ≡ (has x j || has y j)
    go (inl p) q = on_has r j (omega (arith, has_on x j p, bit_lt y j)) ∙ sym (or_left (has y j) p)
    go (inr p) (inl q) = on_has r j (omega (arith, has_on y j q, bit_lt x j)) ∙ sym (or_right (has x j) q)
    go (inr p) (inr q) = off_has r j (omega (arith, has_off x j p, has_off y j q)) ∙ sym (or_false p q)

pub joined_step : (rows : List ℕ) (n x r : ℕ) → Joined rows n x → ((j : ℕ) → bit r j ≡ max (bit x j) (bit (at rows n) j)) → Joined rows (n + 1) r
unfolding some asks
joined_step rows n x r a u = rw add-one (record { here = λ j. has_either x (at rows n) r j (u j) ∙ ap (λ (t : Bool). t || has (at rows n) j) (a.here j) })

-- ---- the weights of one side

-- each port in the mask has a weight that fits
unfoldable pub side_fits : ℕ → List ℕ → Bool
side_fits asking w = every ports (λ i. weight_fits (has asking i) (at w i))

side_law : (asking : ℕ) (b : ℕ → Bool) (w : List ℕ) → ((i : ℕ) → i < 32 → has asking i ≡ b i) → side_fits asking w ≡ every ports (λ i. weight_fits (b i) (at w i))
unfolding side_fits
side_law asking b w h = every_cong ports _ _ (λ i l. ap (λ (t : Bool). weight_fits t (at w i)) (h i l))

-- both sides
pub weights_law :
    (rows wi wo : List ℕ) (ins outs : ℕ) → ((i : ℕ) → i < 32 → has ins i ≡ in_asks rows i) → ((j : ℕ) → j < 32 → has outs j ≡ out_asks rows j) →
    (side_fits ins wi && side_fits outs wo) ≡ weights_fit rows wi wo
unfolding weights_fit
weights_law rows wi wo ins outs p q = ap₂ ◌&&◌ (side_law ins (in_asks rows) wi p) (side_law outs (out_asks rows) wo q)

-- as the code says it, with the two tests computed
pub weights_both :
    (rows wi wo : List ℕ) (ins outs : ℕ) → ((i : ℕ) → i < 32 → has ins i ≡ in_asks rows i) → ((j : ℕ) → j < 32 → has outs j ≡ out_asks rows j) →
    (a b : Bool) → a ≡ side_fits ins wi → b ≡ side_fits outs wo → (a && b) ≡ weights_fit rows wi wo
weights_both rows wi wo ins outs p q a b e f = ap₂ ◌&&◌ e f ∙ weights_law rows wi wo ins outs p q

-- ---- the length of a table

-- 32 × 32
pub table_small : (m n : ℕ) → ports_fit m n ≡ true → m * n ≤ 1024
table_small m n e = let h = ports_are m n e in mul-le-mul h.ins.high h.outs.high
