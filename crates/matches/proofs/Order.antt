-- Dictionary order is an order, and any two lists of one length stand in it. Assumes nothing.
use Rattle.std.specs.Prelude.{◌≡◌, refl, ◌⊎◌, List, [], ◌∷◌, ℕ, ◌≤◌, ◌<◌, length}
use Rattle.std.proofs.Common.{ap₂, inl, inr, arith}
use Rattle.std.proofs.Math.Nat.{suc_inj}
use Rattle.masks.specs.Tests.{lt_or_ge}
use Rattle.matches.specs.Paper.{First}

pub first_refl : (p : List ℕ) → First p p
first_refl [] = tt
first_refl (x ∷ p) = inr (refl, first_refl p)

pub first_trans : (p q r : List ℕ) → First p q → First q r → First p r
first_trans [] q r a b = tt
first_trans (x ∷ p) [] r a b = absurd a
first_trans (x ∷ p) (y ∷ q) [] a b = absurd b
first_trans (x ∷ p) (y ∷ q) (z ∷ r) (inl a) (inl b) = inl (omega arith)
first_trans (x ∷ p) (y ∷ q) (z ∷ r) (inl a) (inr b) = inl (omega arith)
first_trans (x ∷ p) (y ∷ q) (z ∷ r) (inr a) (inl b) = inl (omega arith)
first_trans (x ∷ p) (y ∷ q) (z ∷ r) (inr a) (inr b) = inr (omega arith, first_trans p q r a.1 b.1)

pub first_total : (p q : List ℕ) → length p ≡ length q → First p q ⊎ First q p
first_total [] q l = inl tt
first_total (x ∷ p) [] l = absurd (omega arith)
first_total (x ∷ p) (y ∷ q) l = go (lt_or_ge x y) (lt_or_ge y x) (first_total p q (suc_inj l))
  where
    go : (x < y) ⊎ (y ≤ x) → (y < x) ⊎ (x ≤ y) → First p q ⊎ First q p → First (x ∷ p) (y ∷ q) ⊎ First (y ∷ q) (x ∷ p)
    go (inl a) b r = inl (inl a)
    go (inr a) (inl b) r = inr (inl b)
    go (inr a) (inr b) (inl r) = inl (inr (omega arith, r))
    go (inr a) (inr b) (inr r) = inr (inr (omega arith, r))

pub first_antisym : (p q : List ℕ) → length p ≡ length q → First p q → First q p → p ≡ q
first_antisym [] [] l a b = refl
first_antisym [] (y ∷ q) l a b = absurd (omega arith)
first_antisym (x ∷ p) [] l a b = absurd a
first_antisym (x ∷ p) (y ∷ q) l (inl h) (inl k) = absurd (omega arith)
first_antisym (x ∷ p) (y ∷ q) l (inl h) (inr k) = absurd (omega arith)
first_antisym (x ∷ p) (y ∷ q) l (inr h) (inl k) = absurd (omega arith)
first_antisym (x ∷ p) (y ∷ q) l (inr h) (inr k) = ap₂ ◌∷◌ h.0 (first_antisym p q (suc_inj l) h.1 k.1)
