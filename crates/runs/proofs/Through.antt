-- Through an accepted slot, step by step: what each stored arrival, each dropped one and each departure keeps holds at the slot's end, of the numbers
-- that arrivals and report give. Assumes nothing.
use Rattle.std.specs.Prelude.{◌≡◌, ◌⊎◌, ◌≢◌, Bool, true, false, cond, not, ◌&&◌, List, ltb, eqb}
use Rattle.std.proofs.Math.Path.{refl}
use Rattle.std.proofs.Common.{ap, ◌∙◌, inl, inr, arith}
use Prim.Native.Nat.{ℕ, zero, suc, ◌+◌, ◌^◌, ◌≤◌, ◌<◌}
use borrow.Author.Tests.{ltb-true, eqb-true, eq-eqb, ne_eqb}
use Rattle.masks.specs.Paper.{bit, has, keep, sum, With}
use Rattle.masks.specs.Tests.{eq_or_ne, and_both, every_at}
use Rattle.masks.specs.Sum.{sum_cong}
use Rattle.masks.proofs.Counting.{count_with}
use Rattle.masks.proofs.Laws.{bit_high, on_has, off_has}
use Rattle.card.specs.declared.Arrivals.{Arrivals}
use Rattle.card.specs.Paper.{ports, none, output_at, cell_at, fits_at, arrivals_fit, index, one_stored, one_dropped, one_departed}
use Rattle.queue.specs.Paper.{stored, sent}
use Rattle.matches.specs.Paper.{at, partner}
use Rattle.slot.specs.Paper.{State, Stepped, Taking, Leaving, queue_at, with_queue, counting, take_in, take_one, take_all, begun, arrived, send_from, send_one, send_all, unsent, accepted}
use Rattle.slot.specs.Ready.{Ready, used}
use Rattle.slot.specs.Arriving as arriving
use Rattle.slot.specs.Sending as sending
use Rattle.slot.specs.Matched.{none_above}
use Rattle.runs.specs.Paper.{Call, offered_in, stored_in, dropped_in, departed_in}
use Rattle.runs.proofs.Kept.{agreed, reached, partners_of, gone, Way}
use Rattle.runs.proofs.Turns.{by_room, by_output, by_partner, clear, grown}

-- ---- sums

sum_suc : (n : ℕ) (f : ℕ → ℕ) → sum (suc n) f ≡ sum n f + f n
unfolding sum
sum_suc n f = refl

-- nothing from m on
sum_rest : (m n : ℕ) (f : ℕ → ℕ) → m ≤ n → ((i : ℕ) → m ≤ i → i < n → f i ≡ 0) → sum n f ≡ sum m f
unfolding sum
sum_rest m zero f h g = let e : m ≡ 0 = omega arith in rw e refl
sum_rest m (suc n) f h g = go (λ (l : m ≤ n). sum_rest m n f l (λ i a b. g i a (omega arith))) (eq_or_ne m (suc n))
  where
    go : (m ≤ n → sum n f ≡ sum m f) → (m ≡ suc n) ⊎ (m ≢ suc n) → sum n f + f n ≡ sum m f
    go ih (inl e) = rw e refl
    go ih (inr d) = let l : m ≤ n = omega (arith, d) in omega (arith, ih l, g n l (omega arith))

-- ---- what each step keeps: P tells of a state, after so many arrivals stored, so many dropped, and so many departures

pub record StepsKeep (s : State) (P : (stored dropped departed : ℕ) → State → Type 0) : Type 0 where
  pub begin : P 0 0 0 s
  pub store : (n d g k cell : ℕ) (u : State) → Ready u → k < used u → at u.kept.counts k < u.kept.card.d → P n d g u
      → P (suc n) d g (counting one_stored (with_queue k (stored cell u.kept.slot (queue_at u k)) u))
  pub drop : (n d g : ℕ) (u : State) → P n d g u → P n (suc d) g (counting one_dropped u)
  pub send : (n d g k : ℕ) (u : State) → Ready u → k < used u → 0 < at u.kept.counts k → P n d g u
      → P n d (suc g) (counting one_departed (with_queue k (sent (queue_at u k)) u))

-- ---- the arrivals

-- input k's arrival; and where it is not in the mask m
abbrev comes : Arrivals → ℕ → ℕ
comes a k = keep (not (eqb (output_at a k) none)) 1

abbrev stays : Arrivals → (m k : ℕ) → ℕ
stays a m k = keep (not (eqb (output_at a k) none) && not (has m k)) 1

-- what the first i inputs' arrivals come to: m those of them that were dropped
record Split (a : Arrivals) (i m x y : ℕ) : Type 0 where
  offered : sum i (comes a) ≡ x + y
  stored : sum i (stays a m) ≡ x
  dropped : sum i (bit m) ≡ y

module _ (a : Arrivals) (i m x y : ℕ) (h : m < 2 ^ i) (t : Split a i m x y) where
  split_none : output_at a i ≡ none → Split a (suc i) m x y
  split_none e =
      record {
        offered = rw (sum_suc i (comes a), eq-eqb (output_at a i) none e) (omega (arith, t.offered));
        stored = rw (sum_suc i (stays a m), eq-eqb (output_at a i) none e) (omega (arith, t.stored));
        dropped = omega (arith, sum_suc i (bit m), t.dropped, clear m i h);
      }

  split_room : output_at a i ≢ none → Split a (suc i) m (suc x) y
  split_room n =
      record {
        offered = rw (sum_suc i (comes a), ne_eqb (output_at a i) none n) (omega (arith, t.offered));
        stored = rw (sum_suc i (stays a m), ne_eqb (output_at a i) none n, off_has m i (clear m i h)) (omega (arith, t.stored));
        dropped = omega (arith, sum_suc i (bit m), t.dropped, clear m i h);
      }

  split_full : i < 32 → output_at a i ≢ none → Split a (suc i) (m + 2 ^ i) x (suc y)
  split_full l n =
      record {
        offered = rw (sum_suc i (comes a), ne_eqb (output_at a i) none n) (omega (arith, t.offered));
        stored = rw (sum_suc i (stays a (m + 2 ^ i)), ne_eqb (output_at a i) none n, on_has (m + 2 ^ i) i (w.here l)) (omega (arith, same, t.stored));
        dropped = omega (arith, count_with (suc i) m i (m + 2 ^ i) (omega arith) l (clear m i h) w, sum_suc i (bit m), t.dropped, clear m i h);
      }
    where
      w : With m i (m + 2 ^ i)
      w = grown m i l h

      same : sum i (stays a (m + 2 ^ i)) ≡ sum i (stays a m)
      same =
          sum_cong i (stays a (m + 2 ^ i)) (stays a m)
          (λ k b. ap (λ (z : ℕ). keep (not (eqb (output_at a k) none) && not (eqb z 1)) 1) (w.other k (λ e. absurd (omega arith))))

module _ (s : State) (P : (stored dropped departed : ℕ) → State → Type 0) (v : StepsKeep s P) (a : Arrivals) where
  -- after the first i inputs' arrivals
  record Tally (i : ℕ) (t : Taking) : Type 0 where
    x : ℕ
    y : ℕ
    split : Split a i t.dropped x y
    holds : P x y 0 t.state

  in_tally : (i k cell : ℕ) (t : Taking) → arriving.Along s i t → i < 32 → k < used t.state → output_at a i ≢ none → Tally i t → Tally (suc i) (take_in i k cell t)
  in_tally i k cell t g l b n w =
      by_room i k cell t (Tally (suc i))
      (λ h. record {
        x = suc w.x;
        y = w.y;
        split = split_room a i t.dropped w.x w.y g.low w.split n;
        holds = v.store w.x w.y 0 k cell t.state g.ready b h w.holds;
      })
      (λ h. record {
        x = w.x;
        y = suc w.y;
        split = split_full a i t.dropped w.x w.y g.low w.split l n;
        holds = v.drop w.x w.y 0 t.state w.holds;
      })

  one_tally : (i cell : ℕ) (t : Taking) → arriving.Along s i t → i < s.kept.card.m → arriving.Wanted s.kept.card.n (output_at a i) → Tally i t
      → Tally (suc i) (take_one i (output_at a i) cell t)
  one_tally i cell t g l o w =
      by_output i (output_at a i) cell t (Tally (suc i))
      (λ e. record { x = w.x; y = w.y; split = split_none a i t.dropped w.x w.y g.low w.split e; holds = w.holds })
      (λ n. let b = into n in in_tally i _ cell t g b.input b.here n w)
    where
      into : output_at a i ≢ none → arriving.Into t i (index t.state.kept.card i (output_at a i))
      into n = arriving.bound_into t i (output_at a i) (record { ready = g.ready; input = rw g.card l; output = rw g.card o; low = g.low }) n

  module _ (r : Ready s) (f : arrivals_fit s.kept.card.m s.kept.card.n a ≡ true) where
    all_tally : (i : ℕ) → i ≤ s.kept.card.m → Tally i (take_all a i (begun s))
    unfolding take_all sum
    all_tally zero l = record { x = 0; y = 0; split = record { offered = refl; stored = refl; dropped = refl }; holds = v.begin }
    all_tally (suc i) l =
        let high = r.sizes.ports.ins.high in
        one_tally i (cell_at a i) (take_all a i (begun s)) (arriving.all_keeps s r a f i (omega arith)) (omega arith)
        (arriving.wanted _ _ a f i (omega arith)) (all_tally i (omega arith))

-- ---- the departures

abbrev leaves : List ℕ → ℕ → ℕ
leaves p k = keep (not (eqb (partner p k) none)) 1

module _ (s : State) (P : (stored dropped departed : ℕ) → State → Type 0) (v : StepsKeep s P) (n d : ℕ) (p : List ℕ) where
  one_leaves : (i : ℕ) (l : Leaving) → sending.Can l i (partner p i) → P n d (sum i (leaves p)) l.state → P n d (sum (suc i) (leaves p)) (send_one i (partner p i) l).state
  unfolding send_from
  one_leaves i l b h =
      by_partner i (partner p i) l (λ (y : Leaving). P n d (sum (suc i) (leaves p)) y.state)
      (λ e.
      let z : sum (suc i) (leaves p) ≡ sum i (leaves p) = rw (sum_suc i (leaves p), eq-eqb (partner p i) none e) (omega arith) in
      rw z h)
      (λ x.
      let z : sum (suc i) (leaves p) ≡ suc (sum i (leaves p)) = rw (sum_suc i (leaves p), ne_eqb (partner p i) none x) (omega arith) in
      let f = sending.can_from l i (partner p i) b x in
      rw z (v.send n d (sum i (leaves p)) _ l.state f.ready f.here f.some h))

  module _ (t : State) (r : Ready t) (w : sending.Partners t.kept.card t.kept.counts p) (start : P n d 0 t) where
    all_leave : (i : ℕ) → i ≤ t.kept.card.m → P n d (sum i (leaves p)) (send_all p i (unsent t)).state
    unfolding send_all sum
    all_leave zero l = start
    all_leave (suc i) l = one_leaves i (send_all p i (unsent t)) can (all_leave i (omega arith))
      where
        g : sending.Along t i (send_all p i (unsent t))
        g = sending.all_keeps t r p w i (omega arith)

        can : sending.Can (send_all p i (unsent t)) i (partner p i)
        can = record { ready = g.ready; input = rw g.card (omega arith); output = sending.still t i (partner p i) (send_all p i (unsent t)) g (w.all i (omega arith)) }

-- ---- nothing arrives at inputs from M on

none_past : (m n : ℕ) (a : Arrivals) → arrivals_fit m n a ≡ true → (i : ℕ) → m ≤ i → i < ports → output_at a i ≡ none
unfolding arrivals_fit
none_past m n a e i l h = go (eqb (output_at a i) none) refl (every_at ports (fits_at m n a) e i h)
  where
    go : (t : Bool) → eqb (output_at a i) none ≡ t → cond t (eqb (cell_at a i) 0) (ltb i m && ltb (output_at a i) n) ≡ true → output_at a i ≡ none
    go true x f = eqb-true _ _ x
    go false x f = absurd (omega (arith, ltb-true i m (and_both (ltb i m) (ltb (output_at a i) n) f).0))

-- ---- the whole slot

-- at the end, of what arrivals and report give: x the answer, u the state after the departures
pub record Ended (P : (stored dropped departed : ℕ) → State → Type 0) (c : Call) (x : Stepped) (u : State) : Type 0 where
  pub split : offered_in c x ≡ stored_in c x + dropped_in c x
  pub holds : P (stored_in c x) (dropped_in c x) (departed_in c x) u

move : (P : (stored dropped departed : ℕ) → State → Type 0) (u : State) (n d g n' d' g' : ℕ) → n ≡ n' → d ≡ d' → g ≡ g' → P n' d' g' u → P n d g u
move P u n d g n' d' g' e f h t = rw (e, f, h) t

module _ (s : State) (c : Call) (w : Way s c) where
  -- the inputs whose arrival was dropped
  abbrev lost : ℕ
  lost = (arrived s c.arrivals).dropped

  idle : (i : ℕ) → (reached s c).kept.card.m ≤ i → partner (partners_of s c) i ≡ none
  idle = none_above (reached s c) w.arriving.ready c.hold w.held

  past : (i : ℕ) → s.kept.card.m ≤ i → i < ports → output_at c.arrivals i ≡ none
  past = none_past _ _ c.arrivals w.fits.fit_arrivals

  -- the inputs below M are all
  below : (f : ℕ → ℕ) → ((i : ℕ) → s.kept.card.m ≤ i → i < ports → f i ≡ 0) → sum ports f ≡ sum s.kept.card.m f
  below f h = sum_rest s.kept.card.m ports f w.fits.ready.sizes.ports.ins.high h

  module _ (P : (stored dropped departed : ℕ) → State → Type 0) (v : StepsKeep s P) where
    tally : Tally s P v c.arrivals s.kept.card.m (arrived s c.arrivals)
    tally = all_tally s P v c.arrivals w.fits.ready w.fits.fit_arrivals s.kept.card.m (omega arith)

    offered_is : sum ports (comes c.arrivals) ≡ tally.x + tally.y
    offered_is = below (comes c.arrivals) (λ i l h. rw (eq-eqb _ none (past i l h)) refl) ∙ tally.split.offered

    stored_is : sum ports (stays c.arrivals lost) ≡ tally.x
    stored_is = below (stays c.arrivals lost) (λ i l h. rw (eq-eqb _ none (past i l h)) refl) ∙ tally.split.stored

    dropped_is : sum ports (bit lost) ≡ tally.y
    dropped_is = below (bit lost) (λ i l h. bit_high lost s.kept.card.m i w.arriving.low l) ∙ tally.split.dropped

    departed_is : sum ports (leaves (partners_of s c)) ≡ sum (reached s c).kept.card.m (leaves (partners_of s c))
    departed_is = rw w.arriving.card (below (leaves (partners_of s c)) (λ i l h. rw (eq-eqb _ none (idle i (rw w.arriving.card l))) refl))

    pub through : Ended P c (agreed s c) (gone s c)
    unfolding accepted
    through =
        record {
          split = omega (arith, offered_is, stored_is, dropped_is);
          holds =
              move P (gone s c) _ _ _ tally.x tally.y (sum (reached s c).kept.card.m (leaves (partners_of s c))) stored_is dropped_is departed_is
              (all_leave s P v tally.x tally.y (partners_of s c) (reached s c) w.arriving.ready w.partners tally.holds
              (reached s c).kept.card.m (omega arith));
        }
