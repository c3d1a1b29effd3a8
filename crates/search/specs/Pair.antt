-- Pairings: what one store changes, and what linking and unlinking keep. Assumes nothing.
use Rattle.std.specs.Prelude.{◌≡◌, List, ℕ, ◌-◌, ◌^◌, ◌≤◌, ◌<◌, length, replicate, set}
use Rattle.std.proofs.Common.{sym, ap, ◌∙◌, arith, get_or-set_same, get_or-set_other}
use Rattle.std.proofs.lemmas.List.{get_or-replicate}
use Rattle.std.proofs.Math.Decide.{ℕ_discrete}
use Rattle.masks.specs.Paper.{bit, With, Without}
use Rattle.masks.proofs.Laws.{below_all}
use Rattle.matches.specs.Paper.{at}
use Rattle.search.specs.declared.pairing.Pairing.{Pairing}

-- g is f with v at i
pub record Put (f : ℕ → ℕ) (i v : ℕ) (g : ℕ → ℕ) : Type 0 where
  pub here : g i ≡ v
  pub other : (k : ℕ) → (k ≡ i → ⊥) → g k ≡ f k

-- g is f with none at i, if i is a port
pub record Freed (f : ℕ → ℕ) (i : ℕ) (g : ℕ → ℕ) : Type 0 where
  pub here : i < 32 → 32 ≤ g i
  pub other : (k : ℕ) → (k ≡ i → ⊥) → g k ≡ f k

-- the set has the ports whose partner is none, and no other
pub record Lacks (f : ℕ → ℕ) (set : ℕ) : Type 0 where
  pub on : (k : ℕ) → k < 32 → 32 ≤ f k → bit set k ≡ 1
  pub off : (k : ℕ) → k < 32 → f k < 32 → bit set k ≡ 0

-- mine x has partner m x and theirs j holder t j, where these are below 32; E x j is 1 where x requests j
pub record Pairs (E : ℕ → ℕ → ℕ) (m t : ℕ → ℕ) : Type 0 where
  pub asked : (x : ℕ) → x < 32 → m x < 32 → E x (m x) ≡ 1
  pub back : (x : ℕ) → x < 32 → m x < 32 → t (m x) ≡ x
  pub forth : (j : ℕ) → j < 32 → t j < 32 → m (t j) ≡ j

pub record Paired (E : ℕ → ℕ → ℕ) (p : Pairing) : Type 0 where
  pub pairs : Pairs E (at p.mine) (at p.theirs)
  pub idle : Lacks (at p.mine) p.idle
  pub vacant : Lacks (at p.theirs) p.vacant

-- x has j; what x had before is free
pub record Linked (m t : ℕ → ℕ) (x j : ℕ) (m' t' : ℕ → ℕ) : Type 0 where
  pub mine : Put m x j m'
  pub holds : t' j ≡ x
  pub gave : m x < 32 → (m x ≡ j → ⊥) → 32 ≤ t' (m x)
  pub others : (k : ℕ) → (k ≡ j → ⊥) → (k ≡ m x → ⊥) → t' k ≡ t k

-- x has nothing; what it had is free
pub record Unlinked (m t : ℕ → ℕ) (x : ℕ) (m' t' : ℕ → ℕ) : Type 0 where
  pub mine : Put m x 32 m'
  pub gave : m x < 32 → 32 ≤ t' (m x)
  pub others : (k : ℕ) → (k ≡ m x → ⊥) → t' k ≡ t k

-- ---- stores, by the records

pub put_set : (l : List ℕ) (i v : ℕ) → i < length l → Put (at l) i v (at (set l i v))
put_set l i v h = record { here = get_or-set_same l i v 0 h; other = λ k d. get_or-set_other l i k v 0 d }

pub linked : (m t a : ℕ → ℕ) (x j o : ℕ) (m' t' : ℕ → ℕ) → o ≡ m x → Put m x j m' → Freed t o a → Put a j x t' → Linked m t x j m' t'
linked m t a x j o m' t' eo pm f' pt = let f : Freed t (m x) a = rw eo at f' in record {
  mine = pm;
  holds = pt.here;
  gave = λ l d. omega (arith, pt.other (m x) d, f.here l);
  others = λ k d e. pt.other k d ∙ f.other k e;
}

pub unlinked : (m t : ℕ → ℕ) (x o : ℕ) (m' t' : ℕ → ℕ) → o ≡ m x → Put m x 32 m' → Freed t o t' → Unlinked m t x m' t'
unlinked m t x o m' t' eo pm f' = let f : Freed t (m x) t' = rw eo at f' in record { mine = pm; gave = f.here; others = f.other }

-- ---- a pairing stays one

module _ (E : ℕ → ℕ → ℕ) (m t m' t' : ℕ → ℕ) (x : ℕ) (lx : x < 32) (p : Pairs E m t) where
  module _ (j : ℕ) (lj : j < 32) (e : E x j ≡ 1) (fr : 32 ≤ t j) (l : Linked m t x j m' t') where
    link_asked : (i : ℕ) → i < 32 → m' i < 32 → E i (m' i) ≡ 1
    link_asked i li h = elim (ℕ_discrete i x) [
      | yes q ↦ cc l.mine.here
      | no d ↦ let s = l.mine.other i d in cc (p.asked i li (omega arith))
    ]

    link_back : (i : ℕ) → i < 32 → m' i < 32 → t' (m' i) ≡ i
    link_back i li h = elim (ℕ_discrete i x) [
      | yes q ↦ cc (l.mine.here, l.holds)
      | no d ↦
          let s = l.mine.other i d in
          let b = p.back i li (omega arith) in
          let n1 : m i ≡ j → ⊥ = λ z. omega (arith, ap t z) in
          let n2 : m i ≡ m x → ⊥ = λ z. d (sym b ∙ ap t z ∙ p.back x lx (omega arith)) in
          ap t' s ∙ l.others (m i) n1 n2 ∙ b
    ]

    link_forth : (k : ℕ) → k < 32 → t' k < 32 → m' (t' k) ≡ k
    link_forth k lk h = elim (ℕ_discrete k j) [
      | yes q ↦ cc (l.holds, l.mine.here)
      | no d ↦ elim (ℕ_discrete k (m x)) [
        | yes q ↦ absurd (omega (arith, ap t' q, l.gave (omega arith) (λ z. d (q ∙ z))))
        | no d2 ↦
            let s = l.others k d d2 in
            let b = p.forth k lk (omega arith) in
            ap m' s ∙ l.mine.other (t k) (λ z. d2 (sym b ∙ ap m z)) ∙ b
      ]
    ]

    link_pairs : Pairs E m' t'
    link_pairs = record { asked = link_asked; back = link_back; forth = link_forth }

  -- who has none, and what is free, after linking
  module _ (j : ℕ) (lj : j < 32) (l : Linked m t x j m' t') where
    link_idle : (a b : ℕ) → Lacks m a → Without a x b → Lacks m' b
    link_idle a b v w = record {
      on = λ k lk h. (elim (ℕ_discrete k x) [
        | yes q ↦ absurd (omega (arith, ap m' q, l.mine.here))
        | no d ↦ (let s = l.mine.other k d in w.other k d ∙ v.on k lk (omega arith))
      ]);
      off = λ k lk h. (elim (ℕ_discrete k x) [
        | yes q ↦ ap (bit b) q ∙ w.here
        | no d ↦ (let s = l.mine.other k d in w.other k d ∙ v.off k lk (omega arith))
      ]);
    }

    link_open : (o a b c : ℕ) → o ≡ m x → Lacks t a → With a o b → Without b j c → Lacks t' c
    link_open o a b c eo v w' u = record {
      on = λ k lk h. (elim (ℕ_discrete k j) [
        | yes q ↦ absurd (omega (arith, ap t' q, l.holds))
        | no d ↦ u.other k d ∙ (elim (ℕ_discrete k (m x)) [
          | yes q ↦ ap (bit b) q ∙ w.here (omega arith)
          | no d2 ↦ (let s = l.others k d d2 in w.other k d2 ∙ v.on k lk (omega arith))
        ])
      ]);
      off = λ k lk h. (elim (ℕ_discrete k j) [
        | yes q ↦ ap (bit c) q ∙ u.here
        | no d ↦ u.other k d ∙ (elim (ℕ_discrete k (m x)) [
          | yes q ↦ absurd (omega (arith, ap t' q, l.gave (omega arith) (λ z. d (q ∙ z))))
          | no d2 ↦ (let s = l.others k d d2 in w.other k d2 ∙ v.off k lk (omega arith))
        ])
      ]);
    }
      where
        w : With a (m x) b
        w = rw eo at w'

  module _ (l : Unlinked m t x m' t') where
    stays : (i : ℕ) → m' i < 32 → (i ≡ x → ⊥) × (m' i ≡ m i)
    stays i h =
        let d : i ≡ x → ⊥ = λ q. omega (arith, ap m' q, l.mine.here) in
        (d, l.mine.other i d)

    keeps : (k : ℕ) → k < 32 → t' k < 32 → (k ≡ m x → ⊥) × (t' k ≡ t k)
    keeps k lk h =
        let d : k ≡ m x → ⊥ = λ q. omega (arith, ap t' q, l.gave (omega arith)) in
        (d, l.others k d)

    unlink_pairs : Pairs E m' t'
    unlink_pairs = record {
      asked = λ i li h. (let s = stays i h in cc (p.asked i li (omega arith)));
      back = λ i li h. (
          let s = stays i h in
          let b = p.back i li (omega arith) in
          let n2 : m i ≡ m x → ⊥ = λ z. s.0 (sym b ∙ ap t z ∙ p.back x lx (omega arith)) in
          ap t' s.1 ∙ l.others (m i) n2 ∙ b);
      forth = λ k lk h. (
          let s = keeps k lk h in
          let b = p.forth k lk (omega arith) in
          ap m' s.1 ∙ l.mine.other (t k) (λ z. s.0 (sym b ∙ ap m z)) ∙ b);
    }

    unlink_idle : (a b : ℕ) → Lacks m a → With a x b → Lacks m' b
    unlink_idle a b v w = record {
      on = λ k lk h. (elim (ℕ_discrete k x) [
        | yes q ↦ ap (bit b) q ∙ w.here lx
        | no d ↦ (let s = l.mine.other k d in w.other k d ∙ v.on k lk (omega arith))
      ]);
      off = λ k lk h. (let s = stays k h in w.other k s.0 ∙ v.off k lk (omega (arith, s.1)));
    }

    unlink_open : (o a b : ℕ) → o ≡ m x → Lacks t a → With a o b → Lacks t' b
    unlink_open o a b eo v w' = record {
      on = λ k lk h. (elim (ℕ_discrete k (m x)) [
        | yes q ↦ ap (bit b) q ∙ w.here (omega arith)
        | no d ↦ (let s = l.others k d in w.other k d ∙ v.on k lk (omega arith))
      ]);
      off = λ k lk h. (let s = keeps k lk h in w.other k s.0 ∙ v.off k lk (omega (arith, s.1)));
    }
      where
        w : With a (m x) b
        w = rw eo at w'

-- ---- what the leaf functions promise

pub record Link (p : Pairing) (x j : ℕ) (r : Pairing) : Type 0 where
  pub changed : Linked (at p.mine) (at p.theirs) x j (at r.mine) (at r.theirs)
  pub keeps : (E : ℕ → ℕ → ℕ) → Paired E p → E x j ≡ 1 → 32 ≤ at p.theirs j → Paired E r

pub record Unlink (p : Pairing) (x : ℕ) (r : Pairing) : Type 0 where
  pub changed : Unlinked (at p.mine) (at p.theirs) x (at r.mine) (at r.theirs)
  pub keeps : (E : ℕ → ℕ → ℕ) → Paired E p → Paired E r

pub record Swapped (p r : Pairing) : Type 0 where
  pub mine : r.mine ≡ p.theirs
  pub theirs : r.theirs ≡ p.mine
  pub idle : r.idle ≡ p.vacant
  pub vacant : r.vacant ≡ p.idle

pub link_law : (p r : Pairing) (x j o a : ℕ) → x < 32 → j < 32 → o ≡ at p.mine x
    → Linked (at p.mine) (at p.theirs) x j (at r.mine) (at r.theirs)
    → Without p.idle x r.idle → With p.vacant o a → Without a j r.vacant → Link p x j r
link_law p r x j o a lx lj eo l i w u = record {
  changed = l;
  keeps = λ E h e f. record {
    pairs = link_pairs E _ _ _ _ x lx h.pairs j lj e f l;
    idle = link_idle E _ _ _ _ x lx h.pairs j lj l p.idle r.idle h.idle i;
    vacant = link_open E _ _ _ _ x lx h.pairs j lj l o p.vacant a r.vacant eo h.vacant w u;
  };
}

pub unlink_law : (p r : Pairing) (x o : ℕ) → x < 32 → o ≡ at p.mine x
    → Unlinked (at p.mine) (at p.theirs) x (at r.mine) (at r.theirs)
    → With p.idle x r.idle → With p.vacant o r.vacant → Unlink p x r
unlink_law p r x o lx eo l i w = record {
  changed = l;
  keeps = λ E h. record {
    pairs = unlink_pairs E _ _ _ _ x lx h.pairs l;
    idle = unlink_idle E _ _ _ _ x lx h.pairs l p.idle r.idle h.idle i;
    vacant = unlink_open E _ _ _ _ x lx h.pairs l o p.vacant r.vacant eo h.vacant w;
  };
}

none_at : (i : ℕ) → i < 32 → at (replicate 32 32) i ≡ 32
none_at i l = get_or-replicate 32 i 32 0 l

all_without : Lacks (at (replicate 32 32)) (2 ^ 32 - 1)
all_without = record { on = λ k l h. (below_all 32 (omega arith)).within k l l; off = λ k l h. absurd (omega (arith, none_at k l)) }

pub empty_law : (E : ℕ → ℕ → ℕ) → Paired E (record { mine = replicate 32 32; theirs = replicate 32 32; idle = 2 ^ 32 - 1; vacant = 2 ^ 32 - 1 })
empty_law E = record {
  pairs = record {
    asked = λ i l h. absurd (omega (arith, none_at i l));
    back = λ i l h. absurd (omega (arith, none_at i l));
    forth = λ i l h. absurd (omega (arith, none_at i l));
  };
  idle = all_without;
  vacant = all_without;
}
