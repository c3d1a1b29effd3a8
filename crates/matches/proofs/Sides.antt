-- The certificate theorem for the outputs' side, by exchanging inputs and outputs; weights that keep the order; both sides together.
-- Assumes nothing.
use Rattle.std.specs.Prelude.{◌≡◌, refl, Bool, ℕ, ◌≤◌, ◌<◌, ltb}
use Rattle.std.proofs.Common.{arith, le_refl, ltb-true, lt-ltb}
use Rattle.masks.specs.Paper.{keep}
use Rattle.masks.specs.Tests.{keep_cong}
use Rattle.masks.specs.Sum.{sum_cong, reindex}
use Rattle.matches.specs.Paper.{Match, total, size, weight}
use Rattle.matches.proofs.Owner.{owner, owner_back, owner_apart, owner_is}
use Rattle.matches.proofs.Certificate.{in_w, out_w, parts, Certified, closed_best, Prices, closed_prices, prices_best}

-- ---- weights that keep the order

pub certified_mono : {E : ℕ → ℕ → Bool} {I J : ℕ} {p w : ℕ → ℕ} (w' : ℕ → ℕ)
    → ((u x : ℕ) → u < I → x < I → w u ≤ w x → w' u ≤ w' x) → Certified E I J p w → Certified E I J p w'
certified_mono w' up c = record {
  set = c.set;
  closed = λ u l g. record {
    root = (c.closed u l g).root;
    above = λ x lx s. up u x l lx ((c.closed u l g).above x lx s);
    shut = (c.closed u l g).shut;
  };
}

-- ---- the roles exchanged

abbrev pub swap : (ℕ → ℕ → Bool) → ℕ → ℕ → Bool
swap E j i = E i j

pub owner_match : {E : ℕ → ℕ → Bool} {I J : ℕ} {p : ℕ → ℕ} → Match E I J p → Match (swap E) J I (owner p I)
owner_match {E} {I} {J} {p} m = record {
  asked = λ j lj lo. (let b = owner_back p I j lo in rw b at (m.asked (owner p I j) lo (omega (arith, b))));
  apart = λ j k lj lk l e. owner_apart p I j k l e;
}

module _ {E : ℕ → ℕ → Bool} {I J : ℕ} {p : ℕ → ℕ} (m : Match E I J p) (g : ℕ → ℕ → ℕ) where
  there : total I J g p ≤ total J I (λ j i. g i j) (owner p I)
  there =
      let h : ℕ → ℕ = λ j. keep (ltb (owner p I j) I) (g (owner p I j) j) in
      let same = sum_cong I (λ i. keep (ltb (p i) J) (g i (p i))) (λ i. keep (ltb (p i) J) (h (p i))) (λ i li. keep_cong (ltb (p i) J) _ _ (λ t. rw (owner_is m i (p i) li (ltb-true (p i) J t) refl, lt-ltb i I li))) in
      omega (arith, same, reindex I J p h m.apart)

  back : total J I (λ j i. g i j) (owner p I) ≤ total I J g p
  back =
      let h : ℕ → ℕ = λ i. keep (ltb (p i) J) (g i (p i)) in
      let same = sum_cong J (λ j. keep (ltb (owner p I j) I) (g (owner p I j) j)) (λ j. keep (ltb (owner p I j) I) (h (owner p I j)))
      (λ j lj. keep_cong (ltb (owner p I j) I) _ _ (λ t. rw (owner_back p I j (ltb-true (owner p I j) I t), lt-ltb j J lj))) in
      omega (arith, same, reindex J I (owner p I) h (λ j k lj lk l e. owner_apart p I j k l e))

  pub total_swap : total I J g p ≡ total J I (λ j i. g i j) (owner p I)
  total_swap = omega (arith, there, back)

-- ---- the outputs' side

-- a closed set, in the exchanged problem, for each output that no input is matched to
abbrev pub OutCertified : (ℕ → ℕ → Bool) → ℕ → ℕ → (ℕ → ℕ) → (ℕ → ℕ) → Type 0
OutCertified E I J p v = Certified (swap E) J I (owner p I) v

module _ {E : ℕ → ℕ → Bool} {I J : ℕ} {p : ℕ → ℕ} (m : Match E I J p) where
  pub out_is_in : (v : ℕ → ℕ) → out_w I J v p ≡ in_w J I v (owner p I)
  out_is_in v = total_swap m (λ i j. v j)

  pub in_is_out : (w : ℕ → ℕ) → in_w I J w p ≡ out_w J I w (owner p I)
  in_is_out w = total_swap m (λ i j. w i)

pub closed_best_out : {E : ℕ → ℕ → Bool} {I J : ℕ} {p v : ℕ → ℕ} → Match E I J p → OutCertified E I J p v
    → (q : ℕ → ℕ) → Match E I J q → out_w I J v q ≤ out_w I J v p
closed_best_out {E} {I} {J} {p} {v} m c q mq =
    omega (arith, out_is_in m v, out_is_in mq v, closed_best (owner_match m) c (owner q I) (owner_match mq))

-- the same in prices
pub closed_prices_out : {E : ℕ → ℕ → Bool} {I J : ℕ} {p v : ℕ → ℕ} → Match E I J p → OutCertified E I J p v → Prices (swap E) J I (owner p I) v
closed_prices_out m c = closed_prices (owner_match m) c

pub prices_best_out : {E : ℕ → ℕ → Bool} {I J : ℕ} {p v : ℕ → ℕ} → Match E I J p → Prices (swap E) J I (owner p I) v
    → (q : ℕ → ℕ) → Match E I J q → out_w I J v q ≤ out_w I J v p
prices_best_out {E} {I} {J} {p} {v} m c q mq = omega (arith, out_is_in m v, out_is_in mq v, prices_best c (owner q I) (owner_match mq))

-- ---- both sides

-- no match weighs more
abbrev pub Greatest : (ℕ → ℕ → Bool) → ℕ → ℕ → (ℕ → ℕ) → (ℕ → ℕ) → (ℕ → ℕ) → Type 0
Greatest E I J w v p = (q : ℕ → ℕ) → Match E I J q → weight I J w v q ≤ weight I J w v p

pub closed_greatest : {E : ℕ → ℕ → Bool} {I J : ℕ} {p w v : ℕ → ℕ} → Match E I J p → Certified E I J p w → OutCertified E I J p v → Greatest E I J w v p
closed_greatest {E} {I} {J} {p} {w} {v} m c d q mq = omega (arith, parts I J w v p, parts I J w v q, closed_best m c q mq, closed_best_out m d q mq)

-- the inputs' sets alone, whatever the weights, certify the number of pairs
pub closed_most : {E : ℕ → ℕ → Bool} {I J : ℕ} {p w : ℕ → ℕ} → Match E I J p → Certified E I J p w
    → (q : ℕ → ℕ) → Match E I J q → size I J q ≤ size I J p
closed_most m c q mq = closed_best m (certified_mono (λ i. 1) (λ u x lu lx h. le_refl 1) c) q mq
