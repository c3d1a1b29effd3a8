-- What the settling promises. Assumes nothing.
use Rattle.std.specs.Prelude.{◌≡◌, refl, ◌⊎◌, List, ℕ, ◌+◌, ◌≤◌, ◌<◌, min, eqb, Some, None}
use Rattle.std.proofs.Common.{sym, ap, ◌∙◌, inl, inr, arith}
use Rattle.std.proofs.Math.Decide.{ℕ_discrete}
use Rattle.masks.specs.Paper.{bit, has, Without}
use Rattle.masks.proofs.Laws.{bit_of_zero, has_on, on_has, off_has}
use Rattle.matches.specs.Paper.{at, asks}
use Rattle.matches.proofs.Certificate.{SetFor}
use Rattle.matches.proofs.Heaviest.{closed_alone}
use Rattle.search.specs.declared.reach.Search.{Search}
use Rattle.search.specs.declared.pairing.Pairing.{Pairing}
use Rattle.search.specs.Pair.{Paired}
use Rattle.search.specs.Stage.{wants, Closed, Trail, stage_room}
use Rattle.search.specs.Reach.{port_at, finder_at, Reached}
use Rattle.search.specs.Augment.{Ready, Augmented, trail_cut}
use Rattle.search.specs.Exchange.{Giving, Exchanged}
use Rattle.search.specs.Loss.{loss, loss_augmented, loss_idle}

-- ---- the lightest of a queue

pub record Lighter (w q : ℕ → ℕ) (a b r : ℕ) : Type 0 where
  pub first : w (q r) ≤ w (q a)
  pub second : w (q r) ≤ w (q b)
  pub inside : (n : ℕ) → a < n → b < n → r < n

pub record Lightest (w q : ℕ → ℕ) (n r : ℕ) : Type 0 where
  pub inside : r < n
  pub least : (k : ℕ) → k < n → w (q r) ≤ w (q k)

pub record Queue (q : ℕ → ℕ) (n : ℕ) : Type 0 where
  pub some : 0 < n
  pub room : n ≤ 32
  pub within : (k : ℕ) → k < n → q k < 32

pub lightest_one : (w q : ℕ → ℕ) → Lightest w q 1 0
lightest_one w q = record { inside = omega arith; least = λ k l. (let z : k ≡ 0 = omega arith in omega (arith, ap (λ (y : ℕ). w (q y)) z)) }

pub lightest_more : (w q : ℕ → ℕ) (n a r : ℕ) → Lightest w q n a → Lighter w q a n r → Lightest w q (n + 1) r
lightest_more w q n a r h d = record {
  inside = d.inside (n + 1) (omega (arith, h.inside)) (omega arith);
  least = λ k l. (elim (ℕ_discrete k n) [
    | yes z ↦ omega (arith, ap (λ (y : ℕ). w (q y)) z, d.second)
    | no e ↦ omega (arith, h.least k (omega (arith, e)), d.first)
  ]);
}

module _ (w q : ℕ → ℕ) (a b i k x y : ℕ) (ei : i ≡ q a) (ex : x ≡ w i) (ek : k ≡ q b) (ey : y ≡ w k) where
  pub lighter_b : y < x → Lighter w q a b b
  lighter_b l = record { first = omega (arith, ap w ei, ap w ek); second = omega arith; inside = λ n la lb. lb }

  pub lighter_a : x ≤ y → Lighter w q a b a
  lighter_a l = record { first = omega arith; second = omega (arith, ap w ei, ap w ek); inside = λ n la lb. la }

-- ---- certificates

-- u is matched, or has a closed set of those that weigh at least as much
abbrev pub Good : List ℕ → List ℕ → Pairing → ℕ → Type 0
Good rows ws p u = 32 ≤ at p.mine u → SetFor (asks rows) 32 32 (at p.mine) (at ws) u

-- who is outside the set asks for nothing
abbrev pub Outside : List ℕ → ℕ → Type 0
Outside rows asking = (x : ℕ) → x < 32 → bit asking x ≡ 0 → at rows x ≡ 0

outside_good : (rows ws : List ℕ) (p : Pairing) (u : ℕ) → at rows u ≡ 0 → Good rows ws p u
unfolding asks
outside_good rows ws p u z g = ((λ i. eqb i u), closed_alone u (λ j lj. off_has (at rows u) j (ap (λ (y : ℕ). bit y j) z ∙ bit_of_zero j)))

-- the inputs seen by a search that found nothing
seen_closed : (rows ws : List ℕ) (p : Pairing) (u set : ℕ) → Paired (wants rows) p → Closed (wants rows) (at p.theirs) u set
    → ((x : ℕ) → x < 32 → bit set x ≡ 1 → at ws u ≤ at ws x) → SetFor (asks rows) 32 32 (at p.mine) (at ws) u
unfolding asks
seen_closed rows ws p u set pp c above = (
  has set,
  record {
    root = on_has set u c.root;
    above = λ x lx s. above x lx (has_on set x s);
    shut = λ x j lx lj s e. (
        let h = c.shut x j lx lj (has_on set x s) (has_on (at rows x) j e) in
        (at p.theirs j, h.0, pp.pairs.forth j lj h.0, on_has set (at p.theirs j) h.1));
  },
)

abbrev pub loss_of : List ℕ → Pairing → ℕ
loss_of ws p = loss (at ws) (at p.mine)

-- every output in use stays in use
abbrev pub Uses : Pairing → Pairing → Type 0
Uses p r = (k : ℕ) → k < 32 → at p.theirs k < 32 → at r.theirs k < 32

-- u had its turn: a pairing that has lost less, or the given one, where u is matched or certified
pub record Visited (rows ws : List ℕ) (p : Pairing) (u : ℕ) (r : Pairing) : Type 0 where
  pub paired : Paired (wants rows) r
  pub used : Uses p r
  pub went : (loss_of ws r < loss_of ws p) ⊎ ((r ≡ p) × Good rows ws p u)

-- ---- a try

module _ (rows ws : List ℕ) (p : Pairing) (u : ℕ) (pp : Paired (wants rows) p) (lu : u < 32) (fr : 32 ≤ at p.mine u) (s : Search) (h : Reached rows p u s) where
  pub queue_of : Queue (port_at s) s.len
  queue_of = record { some = h.stage.some; room = stage_room h.stage; within = h.stage.trail.within }

  first_free : 32 ≤ at p.mine (port_at s 0)
  first_free = omega (arith, ap (at p.mine) h.root)

  trail_to : (k : ℕ) → k < s.len → Trail (wants rows) (at p.mine) (port_at s) (finder_at s) (k + 1)
  trail_to k l = trail_cut _ _ _ _ _ s.len (k + 1) h.stage.trail (omega arith) (λ i li. refl)

  pub ready_at : (j : ℕ) → s.found ≡ Some j → Ready (wants rows) p (port_at s) (finder_at s) s.at j
  ready_at j f = let g = h.hit j f in record {
    paired = pp;
    trail = trail_to s.at g.inside;
    room = omega (arith, g.inside, stage_room h.stage);
    out = g.out;
    asked = g.asked;
    vacant = g.vacant;
    first = first_free;
  }

  pub tried_found : (j : ℕ) (r : Pairing) → Augmented (wants rows) p (port_at s 0) j r → Visited rows ws p u r
  tried_found j r a = record {
    paired = a.paired;
    used = a.used;
    went = inl (omega (arith, loss_augmented _ (at ws) _ _ j _ (h.stage.trail.within 0 h.stage.some) first_free a));
  }

  module _ (nf : s.found ≡ None) (k : ℕ) (lk : Lightest (at ws) (port_at s) s.len k) (x a b : ℕ) (ex : x ≡ port_at s k) (ea : a ≡ at ws x) (eb : b ≡ at ws u) where
    light : a ≡ at ws (port_at s k)
    light = ea ∙ ap (at ws) ex

    pub giving_at : a < b → Giving (wants rows) p (port_at s) (finder_at s) k
    giving_at l = record {
      paired = pp;
      trail = trail_to k lk.inside;
      room = omega (arith, lk.inside, stage_room h.stage);
      later = elim (ℕ_discrete k 0) [
        | yes z ↦ absurd (omega (arith, light, ap (λ (y : ℕ). at ws (port_at s y)) z, ap (at ws) h.root))
        | no d ↦ omega (arith, d)
      ];
      first = first_free;
    }

    pub tried_exchange : a < b → (r : Pairing) → Exchanged (wants rows) p (port_at s 0) (port_at s k) r → Visited rows ws p u r
    tried_exchange l r e = record {
      paired = e.paired;
      used = e.used;
      went = inl (omega (arith, e.loses (at ws), light, ap (at ws) h.root));
    }

    pub tried_none : b ≤ a → Visited rows ws p u p
    tried_none l = record {
      paired = pp;
      used = λ i li g. g;
      went = inr (
        refl,
        λ q. seen_closed rows ws p u s.ins pp (h.shut nf)
            (λ y ly m. (let i = h.stage.listed y ly m in omega (arith, light, lk.least i.0 i.1, ap (at ws) i.2))),
      );
    }

-- ---- the passes

-- all but those left had their turn, from the pairing p
pub record Passing (rows ws : List ℕ) (p q : Pairing) (left : ℕ) : Type 0 where
  pub paired : Paired (wants rows) q
  pub used : Uses p q
  pub went : (loss_of ws q < loss_of ws p) ⊎ ((q ≡ p) × ((v : ℕ) → v < 32 → bit left v ≡ 0 → Good rows ws p v))

pub record Swept (rows ws : List ℕ) (p r : Pairing) : Type 0 where
  pub paired : Paired (wants rows) r
  pub used : Uses p r
  pub went : (loss_of ws r < loss_of ws p) ⊎ ((r ≡ p) × ((v : ℕ) → v < 32 → Good rows ws p v))

-- a pairing; what was in use is; and every unmatched input has a closed set of inputs that weigh at least as much
pub record Settled (rows ws : List ℕ) (p r : Pairing) : Type 0 where
  pub paired : Paired (wants rows) r
  pub used : Uses p r
  pub good : (v : ℕ) → v < 32 → Good rows ws r v

pub visit_had : (rows ws : List ℕ) (p : Pairing) (u : ℕ) → Paired (wants rows) p → at p.mine u < 32 → Visited rows ws p u p
visit_had rows ws p u pp l = record { paired = pp; used = λ k lk g. g; went = inr (refl, λ g. absurd (omega arith)) }

module _ (rows ws : List ℕ) (p : Pairing) where
  pub pass_begin : Paired (wants rows) p → (asking left : ℕ) → Outside rows asking → ((k : ℕ) → bit left k ≡ min (bit p.idle k) (bit asking k))
      → Passing rows ws p p left
  pass_begin pp asking left out e = record {
    paired = pp;
    used = λ k lk g. g;
    went = inr (
      refl,
      λ v lv b. (elim (ℕ_discrete (bit asking v) 0) [
        | yes z ↦ outside_good rows ws p v (out v lv z)
        | no d ↦ λ g. absurd (omega (arith, pp.idle.on v lv g, e v, d, b))
      ]),
    );
  }

  pub pass_more : (q r : Pairing) (left u left' : ℕ) → Passing rows ws p q left → Visited rows ws q u r → Without left u left' → Passing rows ws p r left'
  pass_more q r left u left' h d w = record { paired = d.paired; used = λ k lk i. d.used k lk (h.used k lk i); went = go h.went d.went }
    where
      go : (loss_of ws q < loss_of ws p) ⊎ ((q ≡ p) × ((v : ℕ) → v < 32 → bit left v ≡ 0 → Good rows ws p v))
          → (loss_of ws r < loss_of ws q) ⊎ ((r ≡ q) × Good rows ws q u)
          → (loss_of ws r < loss_of ws p) ⊎ ((r ≡ p) × ((v : ℕ) → v < 32 → bit left' v ≡ 0 → Good rows ws p v))
      go (inl a) (inl b) = inl (omega arith)
      go (inl a) (inr b) = inl (omega (arith, ap (loss_of ws) b.0))
      go (inr a) (inl b) = inl (omega (arith, ap (loss_of ws) a.0))
      go (inr a) (inr b) = inr (
        b.0 ∙ a.0,
        λ v lv e. (elim (ℕ_discrete v u) [ yes z ↦ rw z (rw a.0 at b.1) | no n ↦ a.1 v lv (sym (w.other v n) ∙ e) ]),
      )

  pub pass_end : (q : Pairing) (left : ℕ) → left ≡ 0 → Passing rows ws p q left → Swept rows ws p q
  pass_end q left z h = record { paired = h.paired; used = h.used; went = go h.went }
    where
      go : (loss_of ws q < loss_of ws p) ⊎ ((q ≡ p) × ((v : ℕ) → v < 32 → bit left v ≡ 0 → Good rows ws p v))
          → (loss_of ws q < loss_of ws p) ⊎ ((q ≡ p) × ((v : ℕ) → v < 32 → Good rows ws p v))
      go (inl a) = inl a
      go (inr a) = inr (a.0, λ v lv. a.1 v lv (ap (λ (y : ℕ). bit y v) z ∙ bit_of_zero v))

  -- the pairing q was come to from p
  pub record Come (q : Pairing) : Type 0 where
    pub paired : Paired (wants rows) q
    pub used : Uses p q

  module _ (q r : Pairing) (h : Come q) (d : Swept rows ws q r) where
    pub come_more : Come r
    come_more = record { paired = d.paired; used = λ k lk g. d.used k lk (h.used k lk g) }

    -- other ones are idle: the sweep changed something
    pub come_less : (r.idle ≡ q.idle → ⊥) → loss_of ws r < loss_of ws q
    come_less n = go d.went
      where
        go : (loss_of ws r < loss_of ws q) ⊎ ((r ≡ q) × ((v : ℕ) → v < 32 → Good rows ws q v)) → loss_of ws r < loss_of ws q
        go (inl a) = a
        go (inr a) = absurd (n (ap (λ (y : Pairing). y.idle) a.0))

    -- the same ones are idle: it changed nothing
    pub come_end : r.idle ≡ q.idle → Settled rows ws p r
    come_end e = record { paired = d.paired; used = come_more.used; good = go d.went }
      where
        go : (loss_of ws r < loss_of ws q) ⊎ ((r ≡ q) × ((v : ℕ) → v < 32 → Good rows ws q v)) → (v : ℕ) → v < 32 → Good rows ws r v
        go (inl a) = absurd (omega (arith, loss_idle (at ws) (at q.mine) (at r.mine) q.idle h.paired.idle (rw e at d.paired.idle)))
        go (inr a) = rw a.0 a.1
