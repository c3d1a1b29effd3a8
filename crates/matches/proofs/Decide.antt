-- Ranks decide: which matches are heaviest depends on the order of the requesting ports' weights alone. The statement that every rule of the card cites.
-- Assumes nothing.
use Rattle.std.specs.Prelude.{◌≡◌, refl, ◌⊎◌, ◌↔◌, Bool, true, false, ◌&&◌, ℕ, ◌≤◌, ◌<◌, eqb}
use Rattle.std.proofs.Common.{inl, inr, arith}
use Rattle.masks.specs.Tests.{clash, and_both}
use Rattle.matches.specs.Paper.{Match, size}
use Rattle.matches.proofs.Certificate.{in_w, out_w, Certified, SetFor, certified, closed_best}
use Rattle.matches.proofs.Sides.{swap, owner_match, closed_best_out, Greatest, closed_greatest, closed_most}
use Rattle.matches.proofs.Heaviest.{Asks, asks_or_not, Worthy, closed_alone, greatest_certified}

-- ---- the test whether an input requests something

asked? : {A B : Type 0} → A ⊎ B → Bool
asked? (inl a) = true
asked? (inr h) = false

asksb : (ℕ → ℕ → Bool) → ℕ → ℕ → Bool
unfolding asked?
asksb E J i = asked? (asks_or_not E J i)

asksb_true : (E : ℕ → ℕ → Bool) (J i : ℕ) → asksb E J i ≡ true → Asks E J i
unfolding asksb
asksb_true E J i = go (asks_or_not E J i)
  where
    go : (d : Asks E J i ⊎ ((j : ℕ) → j < J → E i j ≡ false)) → asked? d ≡ true → Asks E J i
    go (inl a) e = a
    go (inr h) e = clash {b = false} e refl

asksb_of : (E : ℕ → ℕ → Bool) (J i : ℕ) → Asks E J i → asksb E J i ≡ true
unfolding asksb
asksb_of E J i a = go (asks_or_not E J i)
  where
    go : (d : Asks E J i ⊎ ((j : ℕ) → j < J → E i j ≡ false)) → asked? d ≡ true
    go (inl b) = refl
    go (inr h) = clash a.2 (h a.0 a.1)

-- ---- certificates go over to weights that order the requesting inputs alike

abbrev pub Follows : (ℕ → ℕ → Bool) → ℕ → ℕ → (ℕ → ℕ) → (ℕ → ℕ) → Type 0
Follows E I J w w' = (u x : ℕ) → u < I → x < I → Asks E J u → Asks E J x → w u ≤ w x → w' u ≤ w' x

pub certified_rank : {E : ℕ → ℕ → Bool} {I J : ℕ} {p w : ℕ → ℕ} (w' : ℕ → ℕ) → Match E I J p → Follows E I J w w' → Certified E I J p w → Certified E I J p w'
certified_rank {E} {I} {J} {p} {w} w' m f c = certified (λ u lu g. one u lu g (asks_or_not E J u))
  where
    one : (u : ℕ) → u < I → J ≤ p u → Asks E J u ⊎ ((j : ℕ) → j < J → E u j ≡ false) → SetFor E I J p w' u
    one u lu g (inr h) = ((λ i. eqb i u), closed_alone u h)
    one u lu g (inl a) = (
      (λ i. c.set u i && asksb E J i),
      record {
        root = rw (c.closed u lu g).root (asksb_of E J u a);
        above = λ x lx s. (let h = and_both _ _ s in f u x lu lx a (asksb_true E J x h.1) ((c.closed u lu g).above x lx h.0));
        shut = λ x j lx lj s e. (
            let h = and_both _ _ s in
            let y = (c.closed u lu g).shut x j lx lj h.0 e in
            let b : E y.0 j ≡ true = rw y.2 at (m.asked y.0 y.1 (omega (arith, y.2))) in
            (y.0, y.1, y.2, rw y.3 (asksb_of E J y.0 (j, lj, b))));
      },
    )

pub rank_only : {E : ℕ → ℕ → Bool} {I J : ℕ} {p w v : ℕ → ℕ} (w' v' : ℕ → ℕ) → Match E I J p
    → Worthy E I J w → Worthy (swap E) J I v → Follows E I J w w' → Follows (swap E) J I v v'
    → Greatest E I J w v p → Greatest E I J w' v' p
rank_only w' v' m a b f g h =
    let c = greatest_certified m a b h in
    closed_greatest m (certified_rank w' m f c.0) (certified_rank v' (owner_match m) g c.1)

-- the two ways round
pub rank_iff : {E : ℕ → ℕ → Bool} {I J : ℕ} {p : ℕ → ℕ} (w v w' v' : ℕ → ℕ) → Match E I J p
    → Worthy E I J w → Worthy (swap E) J I v → Worthy E I J w' → Worthy (swap E) J I v'
    → Follows E I J w w' → Follows E I J w' w → Follows (swap E) J I v v' → Follows (swap E) J I v' v
    → Greatest E I J w v p ↔ Greatest E I J w' v' p
rank_iff w v w' v' m a b a' b' f f' g g' = (rank_only w' v' m a b f g, rank_only w v m a' b' f' g')

-- a greatest match has the most pairs, the worthiest inputs and the worthiest outputs, all at once
pub record All (E : ℕ → ℕ → Bool) (I J : ℕ) (w v p : ℕ → ℕ) : Type 0 where
  pub most : (q : ℕ → ℕ) → Match E I J q → size I J q ≤ size I J p
  pub ins : (q : ℕ → ℕ) → Match E I J q → in_w I J w q ≤ in_w I J w p
  pub outs : (q : ℕ → ℕ) → Match E I J q → out_w I J v q ≤ out_w I J v p

pub greatest_all : {E : ℕ → ℕ → Bool} {I J : ℕ} {p w v : ℕ → ℕ} → Match E I J p → Worthy E I J w → Worthy (swap E) J I v → Greatest E I J w v p → All E I J w v p
greatest_all m a b h = let c = greatest_certified m a b h in record { most = closed_most m c.0; ins = closed_best m c.0; outs = closed_best_out m c.1 }
