-- The best of the inputs that are left: what it weighs, which partner it takes first, and `best` found input by input. Assumes nothing.
use Rattle.std.specs.Prelude.{◌≡◌, ◌⊎◌, Bool, true, false, cond, not, ◌&&◌, length, take, set, leb, ltb}
use Rattle.std.proofs.Math.Path.{refl}
use Rattle.std.proofs.Common.{sym, ap, ◌∙◌, inl, inr, eq-or-lt_of_le, add-one, arith, take_all, take-suc-set, get_or-set_same, get_or-set_other, ltb-true, leb-true, lt-ltb, le-ltb, le-leb}
use mathlib.Core.List.{List, [], ◌∷◌, ◌++◌, append-nil}
use Prim.Native.Nat.{ℕ, zero, suc, ◌+◌, ◌-◌, ◌≤◌, ◌<◌}
use Rattle.std.proofs.Math.ListN.{length-set, get_or-eq_default}
use Rattle.std.proofs.Math.Seq.{append_snoc}
use Rattle.std.proofs.lemmas.List.{set-get_or}
use Rattle.std.proofs.lemmas.Bool.{lt-leb}
use Rattle.masks.specs.Paper.{sum}
use Rattle.masks.specs.Tests.{lt_or_ge, clash, and_true, and_both, keep_ge}
use Rattle.masks.specs.Sum.{sum_cong, sum_head}
use Rattle.card.specs.Paper.{ports, none}
use Rattle.matches.specs.Paper.{at, tab, member, Match, weight, asks, partner, Part, gain, add, heavier, pick, best_from, best}
use Rattle.matches.proofs.Sides.{Greatest}
use Rattle.matches.proofs.Lists.{length_tab, get_or_tab, tidy}
use Rattle.matches.proofs.Computed.{weigh, at_most, search_good, Apart, to_fits, from_fits, sum_weigh}

-- ---- the requests that are left for the inputs from i on, where the outputs `taken` are in use

-- input i can take output j
abbrev pub can_take : List ℕ → ℕ → List ℕ → ℕ → Bool
can_take rows i taken j = asks rows i j && not (member j taken)

abbrev pub rest_e : List ℕ → ℕ → List ℕ → ℕ → ℕ → Bool
rest_e rows i taken k b = leb i k && can_take rows k taken b

pub rest_true : (rows : List ℕ) (i : ℕ) (taken : List ℕ) (k b : ℕ) → i ≤ k → asks rows k b ≡ true → not (member b taken) ≡ true → rest_e rows i taken k b ≡ true
rest_true rows i taken k b h a f = and_true (le-leb i k h) (and_true a f)

pub rest_both : (rows : List ℕ) (i : ℕ) (taken : List ℕ) (k b : ℕ) → rest_e rows i taken k b ≡ true → (i ≤ k) × (asks rows k b ≡ true) × (not (member b taken) ≡ true)
rest_both rows i taken k b t = let h = and_both (leb i k) _ t in let g = and_both (asks rows k b) _ h.1 in (leb-true i k h.0, g.0, g.1)

-- ---- sums whose first terms are 0

sum_skip : (i n m : ℕ) (f g : ℕ → ℕ) → m ≡ i + n → ((k : ℕ) → k < i → f k ≡ 0) → ((k x : ℕ) → k < n → x ≡ i + k → f x ≡ g k) → sum m f ≡ sum n g
sum_skip zero n m f g e z s = let e' : m ≡ n = omega arith in rw e' (sum_cong n f g (λ k h. s k k h (omega arith)))
sum_skip (suc i) n zero f g e z s = absurd (omega arith)
sum_skip (suc i) n (suc m) f g e z s =
    omega (arith, sum_head m f, z 0 (omega arith), sum_skip i n m (λ k. f (suc k)) g (omega arith) (λ k h. z (suc k) (omega arith)) (λ k x h d. s k (suc x) h (omega arith)))

-- ---- a match of the requests that are left, as a list for the inputs from i on

tidy_output : (j : ℕ) → j < ports → tidy j ≡ j
unfolding tidy
tidy_output j h = rw (lt-ltb j ports h)

tidy_none : (j : ℕ) → ports ≤ j → tidy j ≡ none
unfolding tidy
tidy_none j h = rw (le-ltb j ports h)

gain_out : (wi wo : List ℕ) (x j : ℕ) → ports ≤ j → gain wi wo x j ≡ 0
unfolding gain
gain_out wi wo x j h = keep_ge j ports (at wi x + at wo j) h

gain_tidy : (wi wo : List ℕ) (x j : ℕ) → gain wi wo x j ≡ gain wi wo x (tidy j)
gain_tidy wi wo x j = go (lt_or_ge j ports)
  where
    go : (j < ports) ⊎ (ports ≤ j) → gain wi wo x j ≡ gain wi wo x (tidy j)
    go (inl h) = ap (gain wi wo x) (sym (tidy_output j h))
    go (inr h) = gain_out wi wo x j h ∙ sym (gain_out wi wo x (tidy j) (omega (arith, tidy_none j h)))

-- l has the partners that q gives to the n inputs from i on, and q gives none to those below i
record Written (n i : ℕ) (q : ℕ → ℕ) (l : List ℕ) : Type 0 where
  long : length l ≡ n
  below : (k : ℕ) → k < i → ports ≤ q k
  along : (k x : ℕ) → k < n → x ≡ i + k → partner l k ≡ tidy (q x)

written_weight : (rows wi wo : List ℕ) (n i : ℕ) (q : ℕ → ℕ) (l : List ℕ) → n + i ≡ ports → Written n i q l → weight ports ports (at wi) (at wo) q ≡ weigh rows wi wo i l
unfolding gain
written_weight rows wi wo n i q l fill w =
    sum_skip i n ports (λ k. gain wi wo k (q k)) (λ k. gain wi wo (i + k) (partner l k)) (omega arith) (λ k h. gain_out wi wo k (q k) (w.below k h)) same
    ∙ ap (λ (m : ℕ). sum m (λ k. gain wi wo (i + k) (partner l k))) (sym w.long)
    ∙ sum_weigh rows wi wo l i (λ k. gain wi wo (i + k) (partner l k)) (λ k m e. ap (λ (x : ℕ). gain wi wo x (partner l k)) (sym e))
  where
    same : (k x : ℕ) → k < n → x ≡ i + k → gain wi wo x (q x) ≡ gain wi wo (i + k) (partner l k)
    same k x h e = gain_tidy wi wo x (q x) ∙ ap (gain wi wo x) (sym (w.along k x h e)) ∙ ap (λ (y : ℕ). gain wi wo y (partner l k)) e

-- a place of l that names an output names what q does
written_named : (n i : ℕ) (q : ℕ → ℕ) (l : List ℕ) → Written n i q l → (k x : ℕ) → x ≡ i + k → partner l k < ports → (k < n) × (partner l k ≡ q x)
written_named n i q l w k x e h = go (lt_or_ge k n) (lt_or_ge (q x) ports)
  where
    go : (k < n) ⊎ (n ≤ k) → (q x < ports) ⊎ (ports ≤ q x) → (k < n) × (partner l k ≡ q x)
    go (inl s) (inl d) = (s, w.along k x s e ∙ tidy_output (q x) d)
    go (inl s) (inr d) = absurd (omega (arith, w.along k x s e, tidy_none (q x) d))
    go (inr s) d = absurd (omega (arith, get_or-eq_default l none {n = k} (omega (arith, w.long))))

module _ (rows wi wo : List ℕ) (n i : ℕ) (fill : n + i ≡ ports) (taken : List ℕ) (q : ℕ → ℕ) (m : Match (rest_e rows i taken) ports ports q) where
  -- the inputs below i have no partner
  rest_below : (k : ℕ) → k < i → ports ≤ q k
  rest_below k h = go (lt_or_ge (q k) ports)
    where
      go : (q k < ports) ⊎ (ports ≤ q k) → ports ≤ q k
      go (inl s) = absurd (omega (arith, (rest_both rows i taken k (q k) (m.asked k (omega arith) s)).0))
      go (inr s) = s

  rest_list : Written n i q (tab n (λ k. tidy (q (i + k))))
  rest_list = record {
    long = length_tab n (λ k. tidy (q (i + k)));
    below = rest_below;
    along = λ k x h e. get_or_tab n (λ k. tidy (q (i + k))) k none h ∙ ap (λ (y : ℕ). tidy (q y)) (sym e);
  }

  rest_apart : (l : List ℕ) → Written n i q l → Apart rows wi wo i taken l
  rest_apart l w = record { named = λ k. named k (lt_or_ge k n) (lt_or_ge (q (i + k)) ports); asked = asked; fresh = fresh; once = once }
    where
      named : (k : ℕ) → (k < n) ⊎ (n ≤ k) → (q (i + k) < ports) ⊎ (ports ≤ q (i + k)) → (partner l k < ports) ⊎ (partner l k ≡ none)
      named k (inl s) (inl d) = inl (omega (arith, w.along k (i + k) s refl, tidy_output (q (i + k)) d))
      named k (inl s) (inr d) = inr (w.along k (i + k) s refl ∙ tidy_none (q (i + k)) d)
      named k (inr s) d = inr (get_or-eq_default l none {n = k} (omega (arith, w.long)))

      -- a place that names an output has a request that is left
      left : (k x : ℕ) → x ≡ i + k → partner l k < ports → rest_e rows i taken x (partner l k) ≡ true
      left k x e h = let a = written_named n i q l w k x e h in rw a.1 (m.asked x (omega (arith, a.0)) (omega (arith, a.1)))

      asked : (k x : ℕ) → x ≡ i + k → partner l k < ports → asks rows x (partner l k) ≡ true
      asked k x e h = (rest_both rows i taken x (partner l k) (left k x e h)).1

      fresh : (k : ℕ) → partner l k < ports → not (member (partner l k) taken) ≡ true
      fresh k h = (rest_both rows i taken (i + k) (partner l k) (left k (i + k) refl h)).2

      once : (k k' : ℕ) → partner l k < ports → partner l k ≡ partner l k' → k ≡ k'
      once k k' h e =
          let a = written_named n i q l w k (i + k) refl h in
          let b = written_named n i q l w k' (i + k') refl (omega arith) in
          let z = m.apart (i + k) (i + k') (omega (arith, a.0)) (omega (arith, b.0)) (omega (arith, a.1)) (omega (arith, a.1, b.1)) in
          omega arith

-- a list for the inputs from i on, as a function
placed : ℕ → List ℕ → ℕ → ℕ
placed i l k = cond (leb i k) (partner l (k - i)) none

placed_below : (i : ℕ) (l : List ℕ) (k : ℕ) → k < i → placed i l k ≡ none
unfolding placed
placed_below i l k h = rw (lt-leb i k h)

placed_along : (i : ℕ) (l : List ℕ) (k x : ℕ) → x ≡ i + k → placed i l x ≡ partner l k
unfolding placed
placed_along i l k x e = let d : x - i ≡ k = omega arith in rw (le-leb i x (omega arith), d)

placed_named : (i : ℕ) (l : List ℕ) (x : ℕ) → placed i l x < ports → (i ≤ x) × (placed i l x ≡ partner l (x - i))
placed_named i l x h = go (lt_or_ge x i)
  where
    go : (x < i) ⊎ (i ≤ x) → (i ≤ x) × (placed i l x ≡ partner l (x - i))
    go (inl s) = absurd (omega (arith, placed_below i l x s))
    go (inr s) = (s, placed_along i l (x - i) x (omega arith))

module _ (rows wi wo : List ℕ) (n i : ℕ) (fill : n + i ≡ ports) (taken l : List ℕ) (long : length l ≡ n) (a : Apart rows wi wo i taken l) where
  placed_written : Written n i (placed i l) l
  placed_written = record {
    long = long;
    below = λ k h. omega (arith, placed_below i l k h);
    along = λ k x h e. go k (a.named k) ∙ ap tidy (sym (placed_along i l k x e));
  }
    where
      go : (k : ℕ) → (partner l k < ports) ⊎ (partner l k ≡ none) → partner l k ≡ tidy (partner l k)
      go k (inl h) = sym (tidy_output (partner l k) h)
      go k (inr e) = e ∙ sym (tidy_none (partner l k) (omega arith))

  placed_match : Match (rest_e rows i taken) ports ports (placed i l)
  placed_match = record { asked = asked; apart = apart }
    where
      asked : (k : ℕ) → k < ports → placed i l k < ports → rest_e rows i taken k (placed i l k) ≡ true
      asked k lk h =
          let b = placed_named i l k h in
          let small : partner l (k - i) < ports = omega (arith, b.1) in
          rw b.1 (rest_true rows i taken k (partner l (k - i)) b.0 (a.asked (k - i) k (omega (arith, b.0)) small) (a.fresh (k - i) small))

      apart : (k x : ℕ) → k < ports → x < ports → placed i l k < ports → placed i l k ≡ placed i l x → k ≡ x
      apart k x lk lx h e =
          let b = placed_named i l k h in
          let d = placed_named i l x (omega arith) in
          omega (arith, b.0, d.0, a.once (k - i) (x - i) (omega (arith, b.1)) (omega (arith, b.1, d.1)))

-- ---- what the best of the inputs that are left weighs

module _ (rows wi wo : List ℕ) (n i : ℕ) (fill : n + i ≡ ports) (taken : List ℕ) (p : ℕ → ℕ) where
  -- no match of the requests that are left weighs more
  pub rest_most : Match (rest_e rows i taken) ports ports p → weight ports ports (at wi) (at wo) p ≤ (best_from rows wi wo n i taken).weighs
  rest_most m =
      let w = rest_list rows wi wo n i fill taken p m in
      let l = tab n (λ k. tidy (p (i + k))) in
      let f = to_fits rows wi wo l i taken (rest_apart rows wi wo n i fill taken p m l w) in
      omega (arith, written_weight rows wi wo n i p l fill w, at_most rows wi wo i (best_from rows wi wo n i taken) l ((search_good rows wi wo n i taken).leads l w.long f))

  -- a match of greatest weight weighs as much
  pub rest_weight : Match (rest_e rows i taken) ports ports p → Greatest (rest_e rows i taken) ports ports (at wi) (at wo) p
      → weight ports ports (at wi) (at wo) p ≡ (best_from rows wi wo n i taken).weighs
  rest_weight m g =
      let good = search_good rows wi wo n i taken in
      let l = (best_from rows wi wo n i taken).partners in
      let a = from_fits rows wi wo l i taken good.fits in
      let w = placed_written rows wi wo n i fill taken l good.long a in
      omega (arith, rest_most m, good.heavy, written_weight rows wi wo n i (placed i l) l fill w, g (placed i l) (placed_match rows wi wo n i fill taken l good.long a))

-- ---- the first of the heaviest candidates

module _ (free : ℕ → Bool) (with : ℕ → Part) (last : Part) where
  -- candidate j, before m others: it is passed over, where it is not free or weighs less, or it is picked
  abbrev Passed : (m j : ℕ) → Type 0
  Passed m j = (pick (suc m) j free with last ≡ pick m (suc j) free with last) × (free j ≡ true → (with j).weighs < (pick m (suc j) free with last).weighs)

  abbrev Picked : (m j : ℕ) → Type 0
  Picked m j = (pick (suc m) j free with last ≡ with j) × (free j ≡ true)

  passed_or_picked : (m j : ℕ) → Passed m j ⊎ Picked m j
  unfolding pick heavier
  passed_or_picked m j = go (free j) (ltb (with j).weighs r.weighs) refl
    where
      r : Part
      r = pick m (suc j) free with last

      go : (b t : Bool) → ltb (with j).weighs r.weighs ≡ t
          → ((elim b [ true ↦ cond t r (with j) | false ↦ r ] ≡ r) × (b ≡ true → (with j).weighs < r.weighs)) ⊎ ((elim b [ true ↦ cond t r (with j) | false ↦ r ] ≡ with j) × (b ≡ true))
      go true true e = inl (refl, λ h. ltb-true (with j).weighs r.weighs e)
      go true false e = inr (refl, refl)
      go false t e = inl (refl, λ h. clash {b = false} h refl)

  -- a candidate that weighs as much as what is picked, where none before it does, is what is picked
  pick_first : (m j k W : ℕ) → (pick m j free with last).weighs ≡ W → j ≤ k → k < m + j → free k ≡ true → (with k).weighs ≡ W
      → ((l : ℕ) → j ≤ l → l < k → free l ≡ true → (with l).weighs ≡ W → ⊥) → pick m j free with last ≡ with k
  pick_first zero j k W e low high f t before = absurd (omega arith)
  pick_first (suc m) j k W e low high f t before =
      go (λ d h. pick_first m (suc j) k W d h (omega arith) f t (λ l a. before l (omega arith))) (passed_or_picked m j) (eq-or-lt_of_le low)
    where
      go : ((pick m (suc j) free with last).weighs ≡ W → j < k → pick m (suc j) free with last ≡ with k) → Passed m j ⊎ Picked m j → (j ≡ k) ⊎ (j < k) → pick (suc m) j free with last ≡ with k
      go rec (inl c) (inl h) = absurd (omega (arith, e, t, ap (λ (a : Part). a.weighs) c.0, ap (λ (x : ℕ). (with x).weighs) h, c.1 (rw h f)))
      go rec (inl c) (inr h) = c.0 ∙ rec (sym (ap (λ (a : Part). a.weighs) c.0) ∙ e) h
      go rec (inr c) (inl h) = c.0 ∙ ap with h
      go rec (inr c) (inr h) = absurd (before j (omega arith) h c.1 (sym (ap (λ (a : Part). a.weighs) c.0) ∙ e))

  -- where no candidate weighs as much as what is picked, the last one is
  pick_last : (m j W : ℕ) → (pick m j free with last).weighs ≡ W → ((l : ℕ) → j ≤ l → l < m + j → free l ≡ true → (with l).weighs ≡ W → ⊥) → pick m j free with last ≡ last
  unfolding pick
  pick_last zero j W e none-does = refl
  pick_last (suc m) j W e none-does = go (λ d. pick_last m (suc j) W d (λ l a b. none-does l (omega arith) (omega arith))) (passed_or_picked m j)
    where
      go : ((pick m (suc j) free with last).weighs ≡ W → pick m (suc j) free with last ≡ last) → Passed m j ⊎ Picked m j → pick (suc m) j free with last ≡ last
      go rec (inl c) = c.0 ∙ rec (sym (ap (λ (a : Part). a.weighs) c.0) ∙ e)
      go rec (inr c) = absurd (none-does j (omega arith) (omega arith) c.1 (sym (ap (λ (a : Part). a.weighs) c.0) ∙ e))

-- ---- the partner of the first input that is left

-- what the best weighs that gives output j to input i, where n inputs are left behind it
abbrev pub option : (rows wi wo : List ℕ) (n i : ℕ) → List ℕ → ℕ → ℕ
option rows wi wo n i taken j = gain wi wo i j + (best_from rows wi wo n (suc i) (j ∷ taken)).weighs

module _ (rows wi wo : List ℕ) (n i : ℕ) (taken : List ℕ) (W : ℕ) (e : (best_from rows wi wo (suc n) i taken).weighs ≡ W) where
  -- the first output whose option weighs as much as the best
  pub choose_output : (j : ℕ) → j < ports → can_take rows i taken j ≡ true → option rows wi wo n i taken j ≡ W
      → ((l : ℕ) → l < j → can_take rows i taken l ≡ true → option rows wi wo n i taken l ≡ W → ⊥)
      → best_from rows wi wo (suc n) i taken ≡ add j (gain wi wo i j) (best_from rows wi wo n (suc i) (j ∷ taken))
  unfolding best_from add
  choose_output j small f t before = pick_first _ _ _ ports 0 j W e (omega arith) (omega arith) f t (λ l a. before l)

  -- no output's option does
  pub choose_none : ((l : ℕ) → l < ports → can_take rows i taken l ≡ true → option rows wi wo n i taken l ≡ W → ⊥)
      → best_from rows wi wo (suc n) i taken ≡ add none 0 (best_from rows wi wo n (suc i) taken)
  unfolding best_from add
  choose_none none-does = pick_last _ _ _ ports 0 W e (λ l a b. none-does l (omega arith))

-- ---- the outputs that p gives to the inputs below i

unfoldable pub taken_of : List ℕ → ℕ → List ℕ
taken_of p zero = []
taken_of p (suc i) = cond (ltb (at p i) ports) (at p i ∷ taken_of p i) (taken_of p i)

pub taken_output : (p : List ℕ) (i : ℕ) → at p i < ports → taken_of p (suc i) ≡ at p i ∷ taken_of p i
unfolding taken_of
taken_output p i h = rw (lt-ltb (at p i) ports h)

pub taken_none : (p : List ℕ) (i : ℕ) → ports ≤ at p i → taken_of p (suc i) ≡ taken_of p i
unfolding taken_of
taken_none p i h = rw (le-ltb (at p i) ports h)

-- later entries do not matter
pub taken_set : (p : List ℕ) (k x i : ℕ) → i ≤ k → taken_of (set p k x) i ≡ taken_of p i
unfolding taken_of
taken_set p k x zero h = refl
taken_set p k x (suc i) h = rw (get_or-set_other p k i x 0 (omega arith), taken_set p k x i (omega arith))

pub taken_set_output : (p : List ℕ) (i j : ℕ) → i < length p → j < ports → taken_of (set p i j) (suc i) ≡ j ∷ taken_of p i
taken_set_output p i j l h = let e = get_or-set_same p i j 0 l in rw (taken_output (set p i j) i (omega arith), e, taken_set p i j i (omega arith))

pub taken_set_none : (p : List ℕ) (i j : ℕ) → i < length p → ports ≤ j → taken_of (set p i j) (suc i) ≡ taken_of p i
taken_set_none p i j l h = let e = get_or-set_same p i j 0 l in taken_none (set p i j) i (omega arith) ∙ taken_set p i j i (omega arith)

-- ---- `best`, input by input

-- the entries of p below i are those of `best`, and what is left is the best of the inputs from i on
pub record Fixed (rows wi wo p : List ℕ) (i : ℕ) : Type 0 where
  pub full : length p ≡ ports
  pub so_far : (n : ℕ) → n + i ≡ ports → best rows wi wo ≡ take i p ++ (best_from rows wi wo n i (taken_of p i)).partners

pub fixed_begin : (rows wi wo p : List ℕ) → length p ≡ ports → Fixed rows wi wo p 0
unfolding best taken_of
fixed_begin rows wi wo p l = record { full = l; so_far = λ n e. (let d : ports ≡ n = omega arith in ap (λ (m : ℕ). (best_from rows wi wo m 0 []).partners) d) }

pub fixed_end : (rows wi wo p : List ℕ) → Fixed rows wi wo p ports → p ≡ best rows wi wo
unfolding best_from
fixed_end rows wi wo p f = sym (f.so_far 0 refl ∙ append-nil (take ports p) ∙ take_all ports p (omega (arith, f.full)))

-- in the form of a loop's counter
pub fixed_next : (rows wi wo p : List ℕ) (i : ℕ) → Fixed rows wi wo p (suc i) → Fixed rows wi wo p (i + 1)
fixed_next rows wi wo p i f = rw add-one f

-- one input more: n are left behind input i
module _ (rows wi wo p : List ℕ) (n i : ℕ) (fill : suc n + i ≡ ports) (f : Fixed rows wi wo p i) where
  inside : i < length p
  inside = omega (arith, f.full)

  fixed_set : (x g : ℕ) (t : List ℕ) → taken_of (set p i x) (suc i) ≡ t → best_from rows wi wo (suc n) i (taken_of p i) ≡ add x g (best_from rows wi wo n (suc i) t)
      → Fixed rows wi wo (set p i x) (suc i)
  unfolding add
  fixed_set x g t s e = record { full = length-set p i x ∙ f.full; so_far = so_far }
    where
      rest : List ℕ
      rest = (best_from rows wi wo n (suc i) t).partners

      so_far : (m : ℕ) → m + suc i ≡ ports → best rows wi wo ≡ take (suc i) (set p i x) ++ (best_from rows wi wo m (suc i) (taken_of (set p i x) (suc i))).partners
      so_far m d =
          let d' : m ≡ n = omega arith in
          rw (d', s, take-suc-set p i x inside) (f.so_far (suc n) fill ∙ ap (λ (a : Part). take i p ++ a.partners) e ∙ sym (append_snoc (take i p) x rest))

  pub fixed_output : (j : ℕ) → j < ports → best_from rows wi wo (suc n) i (taken_of p i) ≡ add j (gain wi wo i j) (best_from rows wi wo n (suc i) (j ∷ taken_of p i))
      → Fixed rows wi wo (set p i j) (suc i)
  fixed_output j small e = fixed_set j (gain wi wo i j) (j ∷ taken_of p i) (taken_set_output p i j inside small) e

  pub fixed_none : best_from rows wi wo (suc n) i (taken_of p i) ≡ add none 0 (best_from rows wi wo n (suc i) (taken_of p i)) → Fixed rows wi wo (set p i none) (suc i)
  fixed_none e = fixed_set none 0 (taken_of p i) (taken_set_none p i none inside (omega arith)) e

  -- p has none there already
  pub fixed_kept : at p i ≡ none → best_from rows wi wo (suc n) i (taken_of p i) ≡ add none 0 (best_from rows wi wo n (suc i) (taken_of p i)) → Fixed rows wi wo p (suc i)
  fixed_kept h e = let s : set p i none ≡ p = ap (set p i) (sym h) ∙ set-get_or p i 0 in rw s at (fixed_none e)
