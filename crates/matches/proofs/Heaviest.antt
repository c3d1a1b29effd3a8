-- Every heaviest match has closed sets on both sides. Assumes nothing.
use Rattle.std.specs.Prelude.{◌≡◌, refl, ◌⊎◌, Bool, true, false, ℕ, ◌≤◌, ◌<◌, eqb}
use Rattle.std.proofs.Common.{inl, inr, arith, le_refl, eqb-true, eq-eqb}
use Rattle.masks.specs.Tests.{cases, lt_or_ge, clash, seek}
use Rattle.matches.specs.Paper.{Match, weight}
use Rattle.matches.proofs.Owner.{owner}
use Rattle.matches.proofs.Certificate.{parts, Closed, Certified, SetFor, certified}
use Rattle.matches.proofs.Sides.{swap, owner_match, out_is_in, in_is_out, OutCertified, Greatest}
use Rattle.matches.proofs.Rotation.{Better, augment}

-- ---- inputs that request something

abbrev pub Asks : (ℕ → ℕ → Bool) → ℕ → ℕ → Type 0
Asks E J i = (j : ℕ) × (j < J) × (E i j ≡ true)

pub asks_or_not : (E : ℕ → ℕ → Bool) (J i : ℕ) → Asks E J i ⊎ ((j : ℕ) → j < J → E i j ≡ false)
asks_or_not E J i = seek J (λ j. E i j ≡ true) (λ j. E i j ≡ false) (λ j l. cases (E i j))

-- each input that requests something weighs at least 1
abbrev pub Worthy : (ℕ → ℕ → Bool) → ℕ → ℕ → (ℕ → ℕ) → Type 0
Worthy E I J w = (i j : ℕ) → i < I → j < J → E i j ≡ true → 1 ≤ w i

-- an input that requests nothing is a closed set by itself
pub closed_alone : {E : ℕ → ℕ → Bool} {I J : ℕ} {p w : ℕ → ℕ} (u : ℕ) → ((j : ℕ) → j < J → E u j ≡ false) → Closed E I J p w u (λ i. eqb i u)
closed_alone {E} {I} {J} {p} {w} u h = record {
  root = eq-eqb u u refl;
  above = λ x lx s. rw (eqb-true x u s) (le_refl (w u));
  shut = λ x j lx lj s e. clash e (rw (eqb-true x u s) (h j lj));
}

module _ {E : ℕ → ℕ → Bool} {I J : ℕ} {p w v : ℕ → ℕ} (m : Match E I J p) (pos : Worthy E I J w) where
  try : (u : ℕ) → u < I → J ≤ p u → Better E I J p w v ⊎ SetFor E I J p w u
  try u lu free = go (asks_or_not E J u)
    where
      go : Asks E J u ⊎ ((j : ℕ) → j < J → E u j ≡ false) → Better E I J p w v ⊎ SetFor E I J p w u
      go (inl a) = augment m u free (pos u a.0 lu a.1 a.2)
      go (inr h) = inr ((λ i. eqb i u), closed_alone u h)

  -- a match that is worth more, or a certificate
  pub better_or_certified : Better E I J p w v ⊎ Certified E I J p w
  better_or_certified = go (seek I (λ u. Better E I J p w v) (λ u. J ≤ p u → SetFor E I J p w u) (λ u lu. one u lu (lt_or_ge (p u) J)))
    where
      one : (u : ℕ) → u < I → (p u < J) ⊎ (J ≤ p u) → Better E I J p w v ⊎ (J ≤ p u → SetFor E I J p w u)
      one u lu (inl l) = inr (λ g. absurd (omega arith))
      one u lu (inr g) = two (try u lu g)
        where
          two : Better E I J p w v ⊎ SetFor E I J p w u → Better E I J p w v ⊎ (J ≤ p u → SetFor E I J p w u)
          two (inl b) = inl b
          two (inr s) = inr (λ _. s)

      go : ((u : ℕ) × (u < I) × Better E I J p w v) ⊎ ((u : ℕ) → u < I → J ≤ p u → SetFor E I J p w u) → Better E I J p w v ⊎ Certified E I J p w
      go (inl b) = inl b.2
      go (inr s) = inr (certified s)

-- ---- both sides

pub record Heavier (E : ℕ → ℕ → Bool) (I J : ℕ) (p w v : ℕ → ℕ) : Type 0 where
  pub next : ℕ → ℕ
  pub match : Match E I J next
  pub more : weight I J w v p < weight I J w v next

heavier_in : {E : ℕ → ℕ → Bool} {I J : ℕ} {p w v : ℕ → ℕ} → Better E I J p w v → Heavier E I J p w v
heavier_in {E} {I} {J} {p} {w} {v} b = record { next = b.next; match = b.match; more = omega (arith, parts I J w v p, parts I J w v b.next, b.more, b.kept) }

heavier_out : {E : ℕ → ℕ → Bool} {I J : ℕ} {p w v : ℕ → ℕ} → Match E I J p → Better (swap E) J I (owner p I) v w → Heavier E I J p w v
heavier_out {E} {I} {J} {p} {w} {v} m b = record {
  next = owner b.next J;
  match = owner_match b.match;
  more = omega (arith, parts I J w v p, parts I J w v (owner b.next J), b.more, b.kept, out_is_in m v, in_is_out m w, out_is_in b.match w, in_is_out b.match v);
}

abbrev pub Certificates : (ℕ → ℕ → Bool) → ℕ → ℕ → (ℕ → ℕ) → (ℕ → ℕ) → (ℕ → ℕ) → Type 0
Certificates E I J p w v = Certified E I J p w × OutCertified E I J p v

pub heavier_or_certified : {E : ℕ → ℕ → Bool} {I J : ℕ} {p w v : ℕ → ℕ} → Match E I J p → Worthy E I J w → Worthy (swap E) J I v
    → Heavier E I J p w v ⊎ Certificates E I J p w v
heavier_or_certified {E} {I} {J} {p} {w} {v} m a b = go (better_or_certified m a) (better_or_certified (owner_match m) b)
  where
    go : Better E I J p w v ⊎ Certified E I J p w → Better (swap E) J I (owner p I) v w ⊎ OutCertified E I J p v → Heavier E I J p w v ⊎ Certificates E I J p w v
    go (inl x) y = inl (heavier_in x)
    go (inr c) (inl y) = inl (heavier_out m y)
    go (inr c) (inr d) = inr (c, d)

-- the greatest matches are those with certificates
pub greatest_certified : {E : ℕ → ℕ → Bool} {I J : ℕ} {p w v : ℕ → ℕ} → Match E I J p → Worthy E I J w → Worthy (swap E) J I v
    → Greatest E I J w v p → Certificates E I J p w v
greatest_certified {E} {I} {J} {p} {w} {v} m a b g = go (heavier_or_certified m a b)
  where
    go : Heavier E I J p w v ⊎ Certificates E I J p w v → Certificates E I J p w v
    go (inl h) = absurd (omega (arith, h.more, g h.next h.match))
    go (inr c) = c
