-- What a step of the search does, from what its parts promise. Assumes nothing.
use Rattle.std.specs.Prelude.{◌≡◌, refl, Bool, true, false, List, ℕ, ◌+◌, ◌-◌, ◌≤◌, ◌<◌, min, Option, Some, None, is_some, get_or}
use Rattle.std.proofs.Common.{sym, ap, ◌∙◌, arith}
use Rattle.std.proofs.Math.Decide.{dec_lt}
use Rattle.masks.specs.Paper.{bit, With, Lowest}
use Rattle.masks.proofs.Laws.{bit_lt, bit_of_zero}
use Rattle.matches.specs.Paper.{at}
use Rattle.search.specs.declared.reach.Search.{Search}
use Rattle.search.specs.declared.reach.Visit.{Visit}
use Rattle.search.specs.declared.pairing.Pairing.{Pairing}
use Rattle.search.specs.Pair.{Put, Paired}
use Rattle.search.specs.Stage.{wants, stage_begin, stage_pass, stage_new, stage_push, stage_room, stage_closed, count_lt}
use Rattle.search.specs.Reach.{no_visit, port_at, finder_at, StageOf, Begun, Passed, Pushed, Stopped, Stepped, Searching, Reached}

module _ (rows : List ℕ) (p : Pairing) (s : Search) (st : StageOf rows p s) (l : s.at < s.len) (x w fr : ℕ)
    (ex : x ≡ port_at s s.at) (ew : w ≡ at rows x) (ef : (k : ℕ) → bit fr k ≡ bit w k - bit s.outs k) where
  pub step_in : x < 32
  step_in = omega (arith, st.trail.within s.at l)

  wants_w : (j : ℕ) → wants rows (port_at s s.at) j ≡ bit w j
  wants_w j = ap (λ (y : ℕ). bit y j) (ap (at rows) (sym ex) ∙ sym ew)

  pub passes : (r : Search) → fr ≡ 0 → Passed s r → s.found ≡ None → Stepped rows p s r
  passes r z h nf = record {
    root = ap (λ (y : List Visit). (get_or y 0 no_visit).port) h.queue;
    stage = rw (h.queue, h.len, h.step, h.outs, h.ins)
        (stage_pass _ _ _ _ _ _ _ _ _ st l (λ j lj e. omega (arith, ef j, ap (λ (y : ℕ). bit y j) z, bit_of_zero j, wants_w j, bit_lt s.outs j)));
    hit = λ j f. (cc h.found);
    more = λ f. omega (arith, h.step, h.len);
  }

  -- what is new and free
  module _ (pp : Paired (wants rows) p) (v : ℕ) (ev : (k : ℕ) → bit v k ≡ min (bit fr k) (bit p.vacant k)) where
    pub stops : (j : ℕ) → 0 < v → Lowest v j → (r : Search) → Stopped s j r → Stepped rows p s r
    stops j pv lo r d = record {
      root = ap (λ (y : List Visit). (get_or y 0 no_visit).port) d.queue;
      stage = rw (d.queue, d.len, d.same, d.outs, d.ins) st;
      hit = λ k f. (let e : k ≡ j = cc d.found in rw (d.queue, d.len, d.same, e) (record {
        inside = l;
        out = lj;
        asked = wants_w j ∙ omega (arith, here, ev j, ef j, bit_lt w j, bit_lt fr j);
        vacant = free (dec_lt (at p.theirs j) 32);
      }));
      more = λ f. (cc d.found);
    }
      where
        lj : j < 32
        lj = lo.inside pv

        here : bit v j ≡ 1
        here = lo.here lj

        free : Dec (at p.theirs j < 32) → 32 ≤ at p.theirs j
        free (yes q) = absurd (omega (arith, pp.vacant.off j lj q, ev j, here))
        free (no q) = omega arith

    -- nothing new is free: the lowest one new has a holder
    module _ (z : v ≡ 0) (j : ℕ) (pf : 0 < fr) (lo : Lowest fr j) where
      pub in_j : j < 32
      in_j = lo.inside pf

      fresh : (bit w j ≡ 1) × (bit s.outs j ≡ 0)
      fresh = (omega (arith, lo.here in_j, ef j, bit_lt w j), omega (arith, lo.here in_j, ef j, bit_lt w j))

      held : at p.theirs j < 32
      held = elim (dec_lt (at p.theirs j) 32) [
        | yes q ↦ q
        | no q ↦ absurd (omega (arith, pp.vacant.on j in_j (omega arith), ev j, lo.here in_j, ap (λ (y : ℕ). bit y j) z, bit_of_zero j))
      ]

      new : bit s.ins (at p.theirs j) ≡ 0
      new = stage_new _ _ _ _ _ _ _ _ _ st pp.pairs j in_j held fresh.1

      room : s.len < 32
      room = omega (arith, st.count, count_lt 32 s.ins (at p.theirs j) held new)

      -- so there is room for the holder, which is a port
      pub can_push : (h : ℕ) → h ≡ at p.theirs j → (h < 32) × (j < 32) × (s.len < 32) × (s.at < 32)
      can_push h e = (omega (arith, held), in_j, room, omega (arith, stage_room st))

      pub pushes : (h : ℕ) → h ≡ at p.theirs j → (r : Search) → Pushed s h j r → s.found ≡ None → Stepped rows p s r
      pushes h eh r d nf =
          let q : Put (port_at s) s.len (at p.theirs j) (port_at r) = rw eh at d.queue in
          let i : With s.ins (at p.theirs j) r.ins = rw eh at d.ins in
          record {
            root = d.queue.other 0 (λ z. omega (arith, st.some));
            stage = rw (d.len, d.same)
                (stage_push _ _ _ _ _ _ _ _ _ st pp.pairs j in_j held fresh.1 (port_at r) (finder_at r) r.outs r.ins l (wants_w j ∙ fresh.0) q d.from d.outs i);
            hit = λ k f. (cc d.found);
            more = λ f. omega (arith, d.same, d.len);
          }

-- ---- the loop

pub some_not_none : {o : Option ℕ} → is_some o ≡ true → o ≡ None → ⊥
some_not_none t e = (cc (ap {B = Bool} is_some e))

pub none_of : (o : Option ℕ) → is_some o ≡ false → o ≡ None
none_of None f = refl
none_of (Some j) f = (cc)

module _ (rows : List ℕ) (p : Pairing) (u : ℕ) where
  pub begun : u < 32 → 32 ≤ at p.mine u → (r : Search) → Begun u r → Searching rows p u r
  begun lu fr r b = record {
    root = b.root;
    stage = rw (b.len, b.at0, b.outs) (stage_begin _ _ _ _ _ u r.ins lu fr b.root b.ins);
    none = b.found;
  }

  pub ends : (s : Search) → Searching rows p u s → s.len ≤ s.at → Reached rows p u s
  ends s h l = record {
    root = h.root;
    stage = h.stage;
    hit = λ j f. (cc h.none);
    shut = λ f. rw h.root at (stage_closed h.stage l);
  }

  pub found : (s r : Search) → Searching rows p u s → Stepped rows p s r → (r.found ≡ None → ⊥) → Reached rows p u r
  found s r h d f = record { root = d.root ∙ h.root; stage = d.stage; hit = d.hit; shut = λ g. absurd (f g) }

  pub goes : (s r : Search) → Searching rows p u s → Stepped rows p s r → r.found ≡ None → Searching rows p u r
  goes s r h d f = record { root = d.root ∙ h.root; stage = d.stage; none = f }

  pub falls : (s r : Search) → Stepped rows p s r → r.found ≡ None → 64 - (r.at + r.len) < 64 - (s.at + s.len)
  falls s r d f = omega (arith, d.more f, d.stage.order, stage_room d.stage)
