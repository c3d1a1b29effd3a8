-- From two settled sides to a heaviest match, and its weight as a loop adds it up. Assumes nothing.
use Rattle.std.specs.Prelude.{◌≡◌, ◌⊎◌, Bool, List, ℕ, ◌+◌, ◌≤◌, ◌<◌, ltb}
use Rattle.std.proofs.Common.{sym, ◌∙◌, inl, inr}
use Rattle.std.proofs.Math.Path.{ap}
use native.Mathlib.Omega.{arith}
use Rattle.std.proofs.Math.Dec.{eqb}
use Rattle.masks.specs.Paper.{keep}
use Rattle.masks.specs.Tests.{lt_or_ge, keep_lt, keep_ge}
use Rattle.masks.specs.Sum.{sum_mono}
use Rattle.masks.proofs.Laws.{on_has}
use Rattle.matches.specs.Paper.{at, asks, Match}
use Rattle.matches.proofs.Owner.{owner, owner_lt}
use Rattle.matches.proofs.Certificate.{in_w, parts, sets_best}
use Rattle.matches.proofs.Sides.{owner_match, out_is_in, Greatest}
use Rattle.search.specs.declared.pairing.Pairing.{Pairing}
use Rattle.search.specs.Pair.{Pairs, Paired, Swapped}
use Rattle.search.specs.Stage.{wants}
use Rattle.search.specs.Settle.{Settled}
use Rattle.search.specs.Problem.{Columns}

-- a pairing of the requests that no match outweighs
pub record Heaviest (rows ins outs : List ℕ) (r : Pairing) : Type 0 where
  pub paired : Paired (wants rows) r
  pub greatest : Greatest (asks rows) 32 32 (at ins) (at outs) (at r.mine)

-- a pairing is a match
pub match_of_paired : (rows : List ℕ) (p : Pairing) → Paired (wants rows) p → Match (asks rows) 32 32 (at p.mine)
unfolding asks
match_of_paired rows p h = record {
  asked = λ i li l. on_has (at rows i) (at p.mine i) (h.pairs.asked i li l);
  apart = λ i k li lk l e. sym (h.pairs.back i li l) ∙ ap (at p.theirs) e ∙ h.pairs.back k lk (omega arith);
}

-- ---- one side

settled_best : (rows ws : List ℕ) (p r : Pairing) → Settled rows ws p r
    → (q : ℕ → ℕ) → Match (asks rows) 32 32 q → in_w 32 32 (at ws) q ≤ in_w 32 32 (at ws) (at r.mine)
settled_best rows ws p r h = sets_best (match_of_paired rows r h.paired) (λ u lu g. h.good u lu g)

-- ---- both sides

swapped_pairs : (E F : ℕ → ℕ → ℕ) (m t : ℕ → ℕ) → ((i j : ℕ) → i < 32 → j < 32 → F j i ≡ E i j) → Pairs E m t → Pairs F t m
swapped_pairs E F m t e p = record {
  asked = λ j lj l. (let b = p.forth j lj l in e (t j) j l lj ∙ ap (E (t j)) (sym b) ∙ p.asked (t j) l (omega arith));
  back = p.forth;
  forth = p.back;
}

pub swapped_paired : (E F : ℕ → ℕ → ℕ) (p s : Pairing) → ((i j : ℕ) → i < 32 → j < 32 → F j i ≡ E i j) → Swapped p s → Paired E p → Paired F s
swapped_paired E F p s e w h = record {
  pairs = rw (w.mine, w.theirs) (swapped_pairs E F (at p.mine) (at p.theirs) e h.pairs);
  idle = rw (w.mine, w.idle) h.vacant;
  vacant = rw (w.theirs, w.vacant) h.idle;
}

match_ext : {E F : ℕ → ℕ → Bool} {p : ℕ → ℕ} → ((i j : ℕ) → i < 32 → j < 32 → E i j ≡ F i j) → Match E 32 32 p → Match F 32 32 p
match_ext {p = p} e m = record { asked = λ i li l. sym (e i (p i) li l) ∙ m.asked i li l; apart = m.apart }

in_mono : (w p q : ℕ → ℕ) → ((i : ℕ) → i < 32 → p i < 32 → q i < 32) → in_w 32 32 w p ≤ in_w 32 32 w q
in_mono w p q h = sum_mono 32 (λ i. keep (ltb (p i) 32) (w i)) (λ i. keep (ltb (q i) 32) (w i)) (λ i li. go i li (lt_or_ge (p i) 32))
  where
    go : (i : ℕ) → i < 32 → (p i < 32) ⊎ (32 ≤ p i) → keep (ltb (p i) 32) (w i) ≤ keep (ltb (q i) 32) (w i)
    go i li (inl l) = omega (arith, keep_lt (p i) 32 (w i) l, keep_lt (q i) 32 (w i) (h i li l))
    go i li (inr g) = omega (arith, keep_ge (p i) 32 (w i) g)

module _ (rows cols ins outs : List ℕ) (tc : Columns rows cols) (p₀ p : Pairing) (h : Settled rows ins p₀ p) (s q : Pairing) (sw : Swapped p s) where
  pub turned_pairing : Paired (wants cols) s
  turned_pairing = swapped_paired (wants rows) (wants cols) p s tc.turned sw h.paired

  module _ (k : Settled cols outs s q) (r : Pairing) (rw' : Swapped q r) where
    back_pairing : Paired (wants rows) r
    back_pairing = swapped_paired (wants cols) (wants rows) q r (λ j i lj li. sym (tc.turned i j li lj)) rw' k.paired

    stays : (i : ℕ) → i < 32 → at p.mine i < 32 → at r.mine i < 32
    stays i li l = rw rw'.mine (k.used i li (rw sw.theirs l))

    held : (j : ℕ) → j < 32 → at q.mine j < 32 → owner (at r.mine) 32 j < 32
    held j lj l = owner_lt (at r.mine) 32 j (at q.mine j) l (rw rw'.mine (k.paired.pairs.back j lj l))

    pub heaviest : Heaviest rows ins outs r
    unfolding asks
    heaviest = record {
      paired = back_pairing;
      greatest = λ x mx.
          (let mr = match_of_paired rows r back_pairing in
          let turn : Match (asks cols) 32 32 (owner x 32) = match_ext (λ j i lj li. ap {B = Bool} (λ (y : ℕ). eqb y 1) (sym (tc.turned i j li lj))) (owner_match mx) in
          omega (
            arith,
            parts 32 32 (at ins) (at outs) x,
            parts 32 32 (at ins) (at outs) (at r.mine),
            settled_best rows ins p₀ p h x mx,
            in_mono (at ins) (at p.mine) (at r.mine) stays,
            out_is_in mx (at outs),
            settled_best cols outs s q k (owner x 32) turn,
            in_mono (at outs) (at q.mine) (owner (at r.mine) 32) held,
            out_is_in mr (at outs),
          ));
    }

-- ---- the weight, input by input

abbrev pub brings : List ℕ → List ℕ → List ℕ → ℕ → ℕ
brings ins outs mine i = keep (ltb (at mine i) 32) (at ins i + at outs (at mine i))
