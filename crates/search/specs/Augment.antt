-- The way back along a trail: every one on it takes what the one after it gave up. Assumes nothing.
use Rattle.std.specs.Prelude.{◌≡◌, refl, ℕ, ◌+◌, ◌≤◌, ◌<◌}
use Rattle.std.proofs.Common.{sym, ◌∙◌, arith}
use Rattle.std.proofs.Math.Path.{ap}
use Rattle.std.proofs.Math.Decide.{ℕ_discrete}
use Rattle.matches.specs.Paper.{at}
use Rattle.search.specs.declared.pairing.Pairing.{Pairing}
use Rattle.search.specs.Pair.{Paired, Linked, Link}
use Rattle.search.specs.Stage.{Trail}

-- the trail up to h, where the free j is requested; its first has nothing
pub record Ready (E : ℕ → ℕ → ℕ) (p : Pairing) (q f : ℕ → ℕ) (h j : ℕ) : Type 0 where
  pub paired : Paired E p
  pub trail : Trail E (at p.mine) q f (h + 1)
  pub room : h < 32
  pub out : j < 32
  pub asked : E (q h) j ≡ 1
  pub vacant : 32 ≤ at p.theirs j
  pub first : 32 ≤ at p.mine (q 0)

-- whatever is requested
abbrev pub any : ℕ → ℕ → ℕ
any x j = 1

pub paired_any : (E : ℕ → ℕ → ℕ) (p : Pairing) → Paired E p → Paired any p
paired_any E p h = record { pairs = record { asked = λ x lx l. refl; back = h.pairs.back; forth = h.pairs.forth }; idle = h.idle; vacant = h.vacant }

pub trail_any : (E : ℕ → ℕ → ℕ) (m q f : ℕ → ℕ) (n : ℕ) → Trail E m q f n → Trail any m q f n
trail_any E m q f n t = record { within = t.within; apart = t.apart; less = t.less; has = t.has; asked = λ k l lk. refl }

pub ready_any : (E : ℕ → ℕ → ℕ) (p : Pairing) (q f : ℕ → ℕ) (h j : ℕ) → Ready E p q f h j → Ready any p q f h j
ready_any E p q f h j r = record {
  paired = paired_any E p r.paired;
  trail = trail_any E (at p.mine) q f (h + 1) r.trail;
  room = r.room;
  out = r.out;
  asked = refl;
  vacant = r.vacant;
  first = r.first;
}

-- u is matched, and every one that was; j is in use, and all that was; and nothing else
pub record Augmented (E : ℕ → ℕ → ℕ) (p : Pairing) (u j : ℕ) (r : Pairing) : Type 0 where
  pub paired : Paired E r
  pub here : at r.mine u < 32
  pub kept : (i : ℕ) → i < 32 → at p.mine i < 32 → at r.mine i < 32
  pub only : (i : ℕ) → i < 32 → (i ≡ u → ⊥) → at r.mine i < 32 → at p.mine i < 32
  pub used : (k : ℕ) → k < 32 → at p.theirs k < 32 → at r.theirs k < 32
  pub new : at r.theirs j < 32
  pub rest : (k : ℕ) → k < 32 → (k ≡ j → ⊥) → at r.theirs k < 32 → at p.theirs k < 32

-- on the way from m₀ and t₀: j is to be taken next, and j₀ was the free one
pub record Moving (m₀ t₀ : ℕ → ℕ) (j₀ : ℕ) (m t : ℕ → ℕ) (j : ℕ) : Type 0 where
  pub start : j₀ < 32
  pub kept : (i : ℕ) → i < 32 → m₀ i < 32 → m i < 32
  pub only : (i : ℕ) → i < 32 → m i < 32 → m₀ i < 32
  pub used : (k : ℕ) → k < 32 → (k ≡ j → ⊥) → t₀ k < 32 → t k < 32
  pub rest : (k : ℕ) → k < 32 → (k ≡ j₀ → ⊥) → t k < 32 → t₀ k < 32
  pub new : (j₀ ≡ j → ⊥) → t j₀ < 32
  pub gave : (j ≡ j₀ → ⊥) → t₀ j < 32

moving : (m t : ℕ → ℕ) (j : ℕ) → j < 32 → Moving m t j m t j
moving m t j lj = record {
  start = lj;
  kept = λ i li l. l;
  only = λ i li l. l;
  used = λ k lk d l. l;
  rest = λ k lk d l. l;
  new = λ d. absurd (d refl);
  gave = λ d. absurd (d refl);
}

-- a shorter trail, in a pairing that agrees on it
pub trail_cut : (E : ℕ → ℕ → ℕ) (m q f m' : ℕ → ℕ) (n k : ℕ) → Trail E m q f n → k ≤ n → ((i : ℕ) → i < k → m' (q i) ≡ m (q i)) → Trail E m' q f k
trail_cut E m q f m' n k t l a = record {
  within = λ i li. t.within i (omega arith);
  apart = λ i j li lj. t.apart i j li (omega arith);
  less = λ i p li. t.less i p (omega arith);
  has = λ i p li. omega (arith, a i li, t.has i p (omega arith));
  asked = λ i p li. ap (E (q (f i))) (a i li) ∙ t.asked i p (omega arith);
}

module _ (E : ℕ → ℕ → ℕ) (p : Pairing) (q f : ℕ → ℕ) (h j : ℕ) (r : Ready E p q f h j) (p' : Pairing) (lk : Link p (q h) j p') where
  m : ℕ → ℕ
  m = at p.mine

  t : ℕ → ℕ
  t = at p.theirs

  m' : ℕ → ℕ
  m' = at p'.mine

  t' : ℕ → ℕ
  t' = at p'.theirs

  l : Linked (at p.mine) (at p.theirs) (q h) j (at p'.mine) (at p'.theirs)
  l = lk.changed

  in_h : q h < 32
  in_h = r.trail.within h (omega arith)

  kept_pairing : Paired E p'
  kept_pairing = lk.keeps E r.paired r.asked r.vacant

  held_h : at p.mine (q h) < 32 → at p.theirs (at p.mine (q h)) ≡ q h
  held_h = r.paired.pairs.back (q h) in_h

  module _ (lh : 0 < h) where
    has_h : at p.mine (q h) < 32
    has_h = r.trail.has h lh (omega arith)

    differs : at p.mine (q h) ≡ j → ⊥
    differs z = omega (arith, r.vacant, ap (at p.theirs) z, held_h has_h, in_h)

    earlier : (k : ℕ) → k < h → at p'.mine (q k) ≡ at p.mine (q k)
    earlier k lk = l.mine.other (q k) (r.trail.apart k h lk (omega arith))

    back_less : f h < h
    back_less = r.trail.less h lh (omega arith)

    ready_back : Ready E p' q f (f h) (at p.mine (q h))
    ready_back = record {
      paired = kept_pairing;
      trail = trail_cut E (at p.mine) q f (at p'.mine) (h + 1) (f h + 1) r.trail (omega (arith, back_less)) (λ i li. earlier i (omega (arith, back_less)));
      room = omega (arith, back_less, r.room);
      out = has_h;
      asked = r.trail.asked h lh (omega arith);
      vacant = l.gave has_h differs;
      first = omega (arith, earlier 0 lh, r.first);
    }

    moving_back : (m₀ t₀ : ℕ → ℕ) (j₀ : ℕ) → Moving m₀ t₀ j₀ (at p.mine) (at p.theirs) j → Moving m₀ t₀ j₀ (at p'.mine) (at p'.theirs) (at p.mine (q h))
    unfolding m t m' t'
    moving_back m₀ t₀ j₀ v = record {
      start = v.start;
      kept = λ i li g. (elim (ℕ_discrete i (q h)) [
        | yes z ↦ omega (arith, ap m' z, l.mine.here, r.out)
        | no d ↦ omega (arith, l.mine.other i d, v.kept i li g)
      ]);
      only = λ i li g. (elim (ℕ_discrete i (q h)) [
        | yes z ↦ v.only i li (omega (arith, ap m z, has_h))
        | no d ↦ v.only i li (omega (arith, l.mine.other i d))
      ]);
      used = λ k lk d g. (elim (ℕ_discrete k j) [
        | yes z ↦ omega (arith, ap t' z, l.holds, in_h)
        | no d2 ↦ omega (arith, l.others k d2 d, v.used k lk d2 g)
      ]);
      rest = λ k lk d g. (elim (ℕ_discrete k j) [
        | yes z ↦ omega (arith, ap t₀ z, v.gave (λ e. d (z ∙ e)))
        | no d2 ↦ (elim (ℕ_discrete k (m (q h))) [
          | yes z ↦ absurd (omega (arith, ap t' z, l.gave has_h differs))
          | no d3 ↦ v.rest k lk d (omega (arith, l.others k d2 d3))
        ])
      ]);
      new = λ d. (elim (ℕ_discrete j₀ j) [
        | yes z ↦ omega (arith, ap t' z, l.holds, in_h)
        | no d2 ↦ omega (arith, l.others j₀ d2 d, v.new d2)
      ]);
      gave = λ d. v.rest (m (q h)) has_h d (omega (arith, held_h has_h, in_h));
    }

  module _ (z : h ≡ 0) where
    none_h : 32 ≤ at p.mine (q h)
    none_h = omega (arith, ap (λ (y : ℕ). at p.mine (q y)) z, r.first)

    same : (k : ℕ) → k < 32 → (k ≡ j → ⊥) → at p'.theirs k ≡ at p.theirs k
    same k lk d = l.others k d (λ e. omega (arith, none_h))

    augmented : (p₀ : Pairing) (j₀ : ℕ) → Moving (at p₀.mine) (at p₀.theirs) j₀ (at p.mine) (at p.theirs) j → Augmented E p₀ (q h) j₀ p'
    unfolding m t m' t'
    augmented p₀ j₀ v = record {
      paired = kept_pairing;
      here = omega (arith, l.mine.here, r.out);
      kept = λ i li g. (elim (ℕ_discrete i (q h)) [
        | yes z ↦ omega (arith, ap m' z, l.mine.here, r.out)
        | no d ↦ omega (arith, l.mine.other i d, v.kept i li g)
      ]);
      only = λ i li d g. v.only i li (omega (arith, l.mine.other i d));
      used = λ k lk g. (elim (ℕ_discrete k j) [
        | yes z ↦ omega (arith, ap t' z, l.holds, in_h)
        | no d2 ↦ omega (arith, same k lk d2, v.used k lk d2 g)
      ]);
      new = elim (ℕ_discrete j₀ j) [
        | yes z ↦ omega (arith, ap t' z, l.holds, in_h)
        | no d2 ↦ omega (arith, same j₀ v.start d2, v.new d2)
      ];
      rest = λ k lk d g. (elim (ℕ_discrete k j) [
        | yes z ↦ omega (arith, ap (at p₀.theirs) z, v.gave (λ e. d (z ∙ e)))
        | no d2 ↦ v.rest k lk d (omega (arith, same k lk d2))
      ]);
    }

-- ---- the loop

pub record Going (E : ℕ → ℕ → ℕ) (p₀ : Pairing) (j₀ : ℕ) (p : Pairing) (q f : ℕ → ℕ) (h j : ℕ) : Type 0 where
  pub ready : Ready E p q f h j
  pub moved : Moving (at p₀.mine) (at p₀.theirs) j₀ (at p.mine) (at p.theirs) j

pub going : (E : ℕ → ℕ → ℕ) (p : Pairing) (q f : ℕ → ℕ) (h j : ℕ) → Ready E p q f h j → Going E p j p q f h j
going E p q f h j r = record { ready = r; moved = moving (at p.mine) (at p.theirs) j r.out }

module _ (E : ℕ → ℕ → ℕ) (p₀ : Pairing) (j₀ : ℕ) (p : Pairing) (q f : ℕ → ℕ) (h j : ℕ) (v : Going E p₀ j₀ p q f h j) (x : ℕ) (p' : Pairing) (lk : Link p x j p') where
  pub goes_back : x ≡ q h → 0 < h → (o g : ℕ) → o ≡ at p.mine x → g ≡ f h → Going E p₀ j₀ p' q f g o
  goes_back ex lh o g eo eg =
      let k : Link p (q h) j p' = rw ex at lk in
      rw (eo, ex, eg) (record {
        ready = ready_back E p q f h j v.ready p' k lh;
        moved = moving_back E p q f h j v.ready p' k lh (at p₀.mine) (at p₀.theirs) j₀ v.moved;
      })

  pub gone_back : x ≡ q 0 → h ≡ 0 → Augmented E p₀ (q 0) j₀ p'
  gone_back ex z =
      let ex' : x ≡ q h = ex ∙ ap q (sym z) in
      let k : Link p (q h) j p' = rw ex' at lk in
      let a : Augmented E p₀ (q h) j₀ p' = augmented E p q f h j v.ready p' k z p₀ j₀ v.moved in
      rw z at a
