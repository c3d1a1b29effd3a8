-- The input that owns an output under a match, and that no input owns two. Assumes nothing.
use Rattle.std.specs.Prelude.{◌≡◌, refl, ◌⊎◌, ◌≢◌, Bool, true, false, cond, ℕ, zero, suc, ◌≤◌, ◌<◌, eqb}
use Rattle.std.proofs.Common.{sym, ◌∙◌, inl, inr, arith, eqb-true}
use Rattle.std.proofs.lemmas.Bool.{eqb-false}
use Rattle.masks.specs.Tests.{eq_or_ne}
use Rattle.matches.specs.Paper.{Match}

unfoldable pub find : (ℕ → ℕ) → ℕ → ℕ → ℕ → ℕ
find p zero j d = d
find p (suc n) j d = cond (eqb (p n) j) n (find p n j d)

pub find_spec : (p : ℕ → ℕ) (n j d : ℕ)
    → ((find p n j d < n) × (p (find p n j d) ≡ j)) ⊎ ((find p n j d ≡ d) × ((i : ℕ) → i < n → p i ≢ j))
unfolding find
find_spec p zero j d = inr (refl, λ i l. absurd (omega arith))
find_spec p (suc n) j d = go (eqb (p n) j) refl (find p n j d) (find_spec p n j d)
  where
    go : (t : Bool) → eqb (p n) j ≡ t → (f : ℕ) → ((f < n) × (p f ≡ j)) ⊎ ((f ≡ d) × ((i : ℕ) → i < n → p i ≢ j))
        → ((cond t n f < suc n) × (p (cond t n f) ≡ j)) ⊎ ((cond t n f ≡ d) × ((i : ℕ) → i < suc n → p i ≢ j))
    go true e f r = inl (omega arith, eqb-true (p n) j e)
    go false e f (inl h) = inl (omega arith, h.1)
    go false e f (inr h) = inr (h.0, λ i l. step i l (eq_or_ne i n))
      where
        step : (i : ℕ) → i < suc n → (i ≡ n) ⊎ (i ≢ n) → p i ≢ j
        step i l (inl q) = rw q (eqb-false (p n) j e)
        step i l (inr q) = h.1 i (omega arith)

unfoldable pub owner : (ℕ → ℕ) → ℕ → ℕ → ℕ
owner p I j = find p I j I

pub owner_spec : (p : ℕ → ℕ) (I j : ℕ)
    → ((owner p I j < I) × (p (owner p I j) ≡ j)) ⊎ ((owner p I j ≡ I) × ((i : ℕ) → i < I → p i ≢ j))
unfolding owner
owner_spec p I j = find_spec p I j I

pub owner_back : (p : ℕ → ℕ) (I j : ℕ) → owner p I j < I → p (owner p I j) ≡ j
owner_back p I j l = go (owner_spec p I j)
  where
    go : ((owner p I j < I) × (p (owner p I j) ≡ j)) ⊎ ((owner p I j ≡ I) × ((i : ℕ) → i < I → p i ≢ j)) → p (owner p I j) ≡ j
    go (inl h) = h.1
    go (inr h) = absurd (omega arith)

pub owner_lt : (p : ℕ → ℕ) (I j i : ℕ) → i < I → p i ≡ j → owner p I j < I
owner_lt p I j i l e = go (owner_spec p I j)
  where
    go : ((owner p I j < I) × (p (owner p I j) ≡ j)) ⊎ ((owner p I j ≡ I) × ((i : ℕ) → i < I → p i ≢ j)) → owner p I j < I
    go (inl h) = h.0
    go (inr h) = absurd (h.1 i l e)

pub owner_none : (p : ℕ → ℕ) (I j : ℕ) → I ≤ owner p I j → (i : ℕ) → i < I → p i ≢ j
owner_none p I j g i l e = absurd (omega (arith, owner_lt p I j i l e))

-- no input owns two outputs
pub owner_apart : (p : ℕ → ℕ) (I j k : ℕ) → owner p I j < I → owner p I j ≡ owner p I k → j ≡ k
owner_apart p I j k l e =
    let back = owner_back p I k (omega arith) in
    cc (owner_back p I j l, back)

module _ {E : ℕ → ℕ → Bool} {I J : ℕ} {p : ℕ → ℕ} (m : Match E I J p) where
  pub owner_is : (i j : ℕ) → i < I → j < J → p i ≡ j → owner p I j ≡ i
  owner_is i j li lj e =
      let lo = owner_lt p I j i li e in
      let back = owner_back p I j lo in
      m.apart (owner p I j) i lo li (omega (arith, back)) (back ∙ sym e)
