-- "The weight of a port without a request is ignored": it changes nothing in an answer, its refusal among them. Assumes nothing.
use Rattle.std.specs.Prelude.{◌≡◌, ◌⊎◌, Bool, true, false, ltb}
use Rattle.std.proofs.Math.Path.{refl, ap, ap₂}
use Rattle.std.proofs.Common.{◌∙◌, inl, inr, arith}
use Rattle.std.proofs.Math.Bool.{◌&&◌}
use mathlib.Core.List.{List}
use Prim.Native.Nat.{ℕ, zero, suc, ◌+◌, ◌<◌}
use borrow.Author.Tests.{ltb-true}
use Rattle.masks.specs.Paper.{every}
use Rattle.masks.specs.Tests.{cases, keep_cong, every_cong, some_of}
use Rattle.masks.specs.Sum.{sum_cong}
use Rattle.card.specs.Paper.{ports, unless, ports_fit}
use Rattle.matches.specs.Paper.{at, asks, partner, IsMatch, size_of, weight_of, Best, best, in_asks, out_asks, weight_fits, rows_fit, weights_fit, weight_refusal, answer, weight_match}
use Rattle.matches.proofs.Computed.{best_is_best, only}

-- two lists of weights that agree at the ports that ask
pub record Agree (asking : ℕ → Bool) (w v : List ℕ) : Type 0 where
  pub same : (i : ℕ) → i < ports → asking i ≡ true → at w i ≡ at v i

fits_same : (asking : ℕ → Bool) (w v : List ℕ) → Agree asking w v → every ports (λ i. weight_fits (asking i) (at w i)) ≡ every ports (λ i. weight_fits (asking i) (at v i))
fits_same asking w v a = every_cong ports _ _ (λ i l. go i l (cases (asking i)))
  where
    go : (i : ℕ) → i < ports → (asking i ≡ true) ⊎ (asking i ≡ false) → weight_fits (asking i) (at w i) ≡ weight_fits (asking i) (at v i)
    go i l (inl t) = ap (weight_fits (asking i)) (a.same i l t)
    go i l (inr f) = rw f

module _ (rows wi wo vi vo : List ℕ) (ins : Agree (in_asks rows) wi vi) (outs : Agree (out_asks rows) wo vo) where
  weight_same : (p : List ℕ) → IsMatch rows p → weight_of wi wo p ≡ weight_of vi vo p
  unfolding weight_of in_asks out_asks
  weight_same p m = sum_cong ports _ _ (λ i l. keep_cong (ltb (partner p i) ports) _ _ (λ t.
      let j = ltb-true (partner p i) ports t in
      let e = m.match.asked i l j in
      ap₂ ◌+◌ (ins.same i l (some_of ports (λ j. asks rows i j) (partner p i) j e)) (outs.same (partner p i) j (some_of ports (λ k. asks rows k (partner p i)) i l e))))

  best_same : best rows wi wo ≡ best rows vi vo
  best_same = only rows vi vo (best rows wi wo) (record {
    match = b.match;
    heaviest = λ q m. omega (arith, b.heaviest q m, weight_same q m, weight_same _ b.match);
    first = λ q m e. b.first q m (omega (arith, weight_same q m, weight_same _ b.match));
  })
    where
      b : Best rows wi wo (best rows wi wo)
      b = best_is_best rows wi wo

  refusal_same : (M N : ℕ) → weight_refusal M N rows wi wo ≡ weight_refusal M N rows vi vo
  unfolding weight_refusal weights_fit
  refusal_same M N = ap (λ (t : Bool). unless (ports_fit M N) 1 (unless (rows_fit M N rows) 5 (unless t 6 0))) (ap₂ ◌&&◌ (fits_same (in_asks rows) wi vi ins) (fits_same (out_asks rows) wo vo outs))

  answer_same : (r : ℕ) → answer r rows wi wo ≡ answer r rows vi vo
  unfolding answer
  answer_same zero = ap₂ (λ (p : List ℕ) (x : ℕ). record { refusal = 0; partners = p; pairs = size_of p; weighs = x }) best_same
      (weight_same (best rows wi wo) (best_is_best rows wi wo).match ∙ ap (weight_of vi vo) best_same)
  answer_same (suc k) = refl

  pub ignored : (M N : ℕ) → weight_match M N rows wi wo ≡ weight_match M N rows vi vo
  unfolding weight_match
  ignored M N = answer_same (weight_refusal M N rows wi wo) ∙ ap (λ (r : ℕ). answer r rows vi vo) (refusal_same M N)
