-- The certificate theorem, for the inputs' side: a closed set for each unmatched input, or a price list, shows that no match has inputs that weigh more.
-- Assumes nothing.
use Rattle.std.specs.Prelude.{◌≡◌, ◌⊎◌, Bool, true, false, ◌&&◌, ℕ, ◌+◌, ◌-◌, ◌≤◌, ◌<◌, ltb, leb}
use Rattle.std.proofs.Common.{sym, ◌∙◌, inl, inr, arith, ltb-true, leb-true, lt-ltb, le-ltb, le-leb}
use Rattle.masks.specs.Paper.{keep, sum}
use Rattle.masks.specs.Tests.{lt_or_ge, and_both, keep_true, keep_bound, keep_cong, keep_lt, keep_add}
use Rattle.masks.specs.Sum.{sum_cong, sum_mono, sum_add, reindex, top, top_le, top_at}
use Rattle.matches.specs.Paper.{Match, total, weight}
use Rattle.matches.proofs.Owner.{owner, owner_back, owner_apart, owner_is}

-- ---- the two parts of a weight

-- what the matched inputs weigh, and what their outputs do
abbrev pub in_w : ℕ → ℕ → (ℕ → ℕ) → (ℕ → ℕ) → ℕ
in_w I J w p = total I J (λ i j. w i) p

abbrev pub out_w : ℕ → ℕ → (ℕ → ℕ) → (ℕ → ℕ) → ℕ
out_w I J v p = total I J (λ i j. v j) p

pub parts : (I J : ℕ) (w v p : ℕ → ℕ) → weight I J w v p ≡ in_w I J w p + out_w I J v p
parts I J w v p =
    sum_cong I (λ i. keep (ltb (p i) J) (w i + v (p i))) (λ i. keep (ltb (p i) J) (w i) + keep (ltb (p i) J) (v (p i))) (λ i l. keep_add (ltb (p i) J) (w i) (v (p i)))
    ∙ sum_add I (λ i. keep (ltb (p i) J) (w i)) (λ i. keep (ltb (p i) J) (v (p i)))

-- ---- prices

-- a price for each input and each output, that covers what each request is worth
abbrev pub Covers : (ℕ → ℕ → Bool) → ℕ → ℕ → (ℕ → ℕ → ℕ) → (ℕ → ℕ) → (ℕ → ℕ) → Type 0
Covers E I J g a b = (i j : ℕ) → i < I → j < J → E i j ≡ true → g i j ≤ a i + b j

-- no match is worth more than the prices together
pub prices_bound : {E : ℕ → ℕ → Bool} {I J : ℕ} {q : ℕ → ℕ} (g : ℕ → ℕ → ℕ) (a b : ℕ → ℕ)
    → Covers E I J g a b → Match E I J q → total I J g q ≤ sum I a + sum J b
prices_bound {E} {I} {J} {q} g a b c m =
    let one = sum_mono I (λ i. keep (ltb (q i) J) (g i (q i))) (λ i. a i + keep (ltb (q i) J) (b (q i)))
    (λ i l. prices_step i l (lt_or_ge (q i) J)) in
    omega (arith, one, sum_add I a (λ i. keep (ltb (q i) J) (b (q i))), reindex I J q b m.apart)
  where
    prices_step : (i : ℕ) → i < I → (q i < J) ⊎ (J ≤ q i) → keep (ltb (q i) J) (g i (q i)) ≤ a i + keep (ltb (q i) J) (b (q i))
    prices_step i l (inl h) = rw (lt-ltb (q i) J h) (c i (q i) l h (m.asked i l h))
    prices_step i l (inr h) = rw (le-ltb (q i) J h) (omega arith)

-- ---- closed sets

-- S holds u and no input that is worth less than u, and each output that an input of S requests is owned in S
pub record Closed (E : ℕ → ℕ → Bool) (I J : ℕ) (p w : ℕ → ℕ) (u : ℕ) (S : ℕ → Bool) : Type 0 where
  pub root : S u ≡ true
  pub above : (x : ℕ) → x < I → S x ≡ true → w u ≤ w x
  pub shut : (x j : ℕ) → x < I → j < J → S x ≡ true → E x j ≡ true → (y : ℕ) × (y < I) × (p y ≡ j) × (S y ≡ true)

-- a closed set for each unmatched input
pub record Certified (E : ℕ → ℕ → Bool) (I J : ℕ) (p w : ℕ → ℕ) : Type 0 where
  pub set : ℕ → ℕ → Bool
  pub closed : (u : ℕ) → u < I → J ≤ p u → Closed E I J p w u (set u)

-- from sets that are given one by one
abbrev pub SetFor : (ℕ → ℕ → Bool) → ℕ → ℕ → (ℕ → ℕ) → (ℕ → ℕ) → ℕ → Type 0
SetFor E I J p w u = (S : ℕ → Bool) × Closed E I J p w u S

pub certified : {E : ℕ → ℕ → Bool} {I J : ℕ} {p w : ℕ → ℕ} → ((u : ℕ) → u < I → J ≤ p u → SetFor E I J p w u) → Certified E I J p w
certified {E} {I} {J} {p} {w} h = record { set = λ u. pick u (lt_or_ge u I) (lt_or_ge (p u) J); closed = λ u l g. good u l g (lt_or_ge u I) (lt_or_ge (p u) J) }
  where
    pick : (u : ℕ) → (u < I) ⊎ (I ≤ u) → (p u < J) ⊎ (J ≤ p u) → ℕ → Bool
    pick u (inl l) (inr g) = (h u l g).0
    pick u (inl l) (inl g) = λ x. false
    pick u (inr l) d = λ x. false

    good : (u : ℕ) → u < I → J ≤ p u → (c : (u < I) ⊎ (I ≤ u)) (d : (p u < J) ⊎ (J ≤ p u)) → Closed E I J p w u (pick u c d)
    good u l g (inl l') (inr g') = (h u l' g').1
    good u l g (inl l') (inl g') = absurd (omega arith)
    good u l g (inr l') d = absurd (omega arith)

-- the prices that closed sets give
abbrev pub lam : ℕ → ℕ → (ℕ → ℕ) → (ℕ → ℕ) → (ℕ → ℕ → Bool) → ℕ → ℕ
lam I J p w S x = top I (λ u. keep (leb J (p u) && S u x) (w u))

module _ {E : ℕ → ℕ → Bool} {I J : ℕ} {p w : ℕ → ℕ} (m : Match E I J p) (c : Certified E I J p w) where
  lam_le : (x : ℕ) → x < I → lam I J p w c.set x ≤ w x
  lam_le x lx = top_le I _ (w x) (λ u lu. keep_bound (leb J (p u) && c.set u x) (w u) (w x) (λ t.
      let h = and_both _ _ t in (c.closed u lu (leb-true J (p u) h.0)).above x lx h.1))

  -- lam of an input of u's set
  lam_at : (u x : ℕ) → u < I → J ≤ p u → c.set u x ≡ true → w u ≤ lam I J p w c.set x
  lam_at u x lu g s =
      let one : (leb J (p u) && c.set u x) ≡ true = rw (le-leb J (p u) g) s in
      omega (arith, top_at I (λ k. keep (leb J (p k) && c.set k x) (w k)) u lu, keep_true (w u) one)

  lam_free : (u : ℕ) → u < I → J ≤ p u → w u ≤ lam I J p w c.set u
  lam_free u lu g = lam_at u u lu g (c.closed u lu g).root

  -- the price of an output: lam of its owner
  abbrev pub out_price : ℕ → ℕ
  out_price j = keep (ltb (owner p I j) I) (lam I J p w c.set (owner p I j))

  abbrev pub in_price : ℕ → ℕ
  in_price i = w i - lam I J p w c.set i

  lam_out : (x j : ℕ) → x < I → j < J → E x j ≡ true → lam I J p w c.set x ≤ out_price j
  lam_out x j lx lj e = top_le I _ (out_price j) (λ u lu. keep_bound (leb J (p u) && c.set u x) (w u) (out_price j) (λ t.
      let h = and_both _ _ t in
      let g = leb-true J (p u) h.0 in
      let y = (c.closed u lu g).shut x j lx lj h.1 e in
      let o = owner_is m y.0 j y.1 lj y.2 in
      let s : c.set u (owner p I j) ≡ true = rw o y.3 in
      omega (arith, lam_at u (owner p I j) lu g s, keep_lt (owner p I j) I (lam I J p w c.set (owner p I j)) (omega (arith, o, y.1)))))

  pub prices_cover : Covers E I J (λ i j. w i) in_price out_price
  prices_cover i j li lj e = omega (arith, lam_out i j li lj e)

  -- only matched inputs have a price
  in_matched : (i : ℕ) → i < I → in_price i + keep (ltb (p i) J) (lam I J p w c.set i) ≡ keep (ltb (p i) J) (w i)
  in_matched i l = go (lt_or_ge (p i) J)
    where
      go : (p i < J) ⊎ (J ≤ p i) → in_price i + keep (ltb (p i) J) (lam I J p w c.set i) ≡ keep (ltb (p i) J) (w i)
      go (inl h) = rw (lt-ltb (p i) J h) (omega (arith, lam_le i l))
      go (inr h) = rw (le-ltb (p i) J h) (omega (arith, lam_free i l h))

  out_matched : sum J out_price ≤ sum I (λ i. keep (ltb (p i) J) (lam I J p w c.set i))
  out_matched =
      let g : ℕ → ℕ = λ i. keep (ltb (p i) J) (lam I J p w c.set i) in
      let same = sum_cong J out_price (λ j. keep (ltb (owner p I j) I) (g (owner p I j))) (λ j lj. keep_cong (ltb (owner p I j) I) _ _ (λ t.
      sym (keep_lt (p (owner p I j)) J (lam I J p w c.set (owner p I j)) (omega (arith, owner_back p I j (ltb-true _ _ t)))))) in
      omega (arith, same, reindex J I (owner p I) g (λ j k lj lk l e. owner_apart p I j k l e))

  prices_sum_le : sum I in_price + sum J out_price ≤ in_w I J w p
  prices_sum_le =
      omega (
        arith,
        out_matched,
        sum_add I in_price (λ i. keep (ltb (p i) J) (lam I J p w c.set i)),
        sum_cong I (λ i. in_price i + keep (ltb (p i) J) (lam I J p w c.set i)) (λ i. keep (ltb (p i) J) (w i)) in_matched,
      )

  pub prices_sum : sum I in_price + sum J out_price ≡ in_w I J w p
  prices_sum = omega (arith, prices_sum_le, prices_bound (λ i j. w i) in_price out_price prices_cover m)

  -- closed sets certify: no match has inputs that are worth more
  pub closed_best : (q : ℕ → ℕ) → Match E I J q → in_w I J w q ≤ in_w I J w p
  closed_best q mq = omega (arith, prices_sum_le, prices_bound (λ i j. w i) in_price out_price prices_cover mq)

-- the same, in prices: they cover each request's input, and come to what p's inputs are worth
pub record Prices (E : ℕ → ℕ → Bool) (I J : ℕ) (p w : ℕ → ℕ) : Type 0 where
  pub price_in : ℕ → ℕ
  pub price_out : ℕ → ℕ
  pub cover : Covers E I J (λ i j. w i) price_in price_out
  pub exact : sum I price_in + sum J price_out ≡ in_w I J w p

pub closed_prices : {E : ℕ → ℕ → Bool} {I J : ℕ} {p w : ℕ → ℕ} → Match E I J p → Certified E I J p w → Prices E I J p w
closed_prices m c = record { price_in = in_price m c; price_out = out_price m c; cover = prices_cover m c; exact = prices_sum m c }

pub prices_best : {E : ℕ → ℕ → Bool} {I J : ℕ} {p w : ℕ → ℕ} → Prices E I J p w → (q : ℕ → ℕ) → Match E I J q → in_w I J w q ≤ in_w I J w p
prices_best {E} {I} {J} {p} {w} c q mq = omega (arith, c.exact, prices_bound (λ i j. w i) c.price_in c.price_out c.cover mq)

-- the same, from sets that are given one by one
pub sets_best : {E : ℕ → ℕ → Bool} {I J : ℕ} {p w : ℕ → ℕ} → Match E I J p → ((u : ℕ) → u < I → J ≤ p u → SetFor E I J p w u)
    → (q : ℕ → ℕ) → Match E I J q → in_w I J w q ≤ in_w I J w p
sets_best m h = closed_best m (certified h)
