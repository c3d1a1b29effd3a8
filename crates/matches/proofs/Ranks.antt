-- Ranks keep the order of the weights of the ports that ask; ranking the ranks gives them again; a rank form of accepted weights is accepted.
-- Assumes nothing.
use Rattle.std.specs.Prelude.{◌≡◌, Bool, length, eqb}
use Rattle.std.proofs.Math.Path.{refl, ap₂}
use Rattle.std.proofs.Common.{sym, ap, subst, ◌∙◌, le_of_suc-le-suc, arith, ltb-true, ltb-false, lt-ltb, le-ltb, eqb-true, eq-eqb, ne_eqb}
use Rattle.std.proofs.Math.Bool.{true, false, cond, ◌||◌}
use mathlib.Core.List.{List, [], ◌∷◌, map}
use Prim.Native.Nat.{ℕ, zero, suc, ◌+◌, ◌≤◌, ◌<◌, suc-le-suc}
use Rattle.std.proofs.Math.Dec.{ltb}
use Rattle.masks.specs.Paper.{keep}
use Rattle.masks.specs.Tests.{clash, or_left, or_right, keep_true}
use Rattle.card.specs.Paper.{ports}
use Rattle.matches.specs.Paper.{at, tab, member, those, distinct, smaller, rank, in_asks, out_asks, in_ranks, out_ranks, weight_refusal, ranked, rank_form}
use Rattle.matches.proofs.Lists.{get_or_tab, tab_cong}
use Rattle.matches.proofs.Accepted.{Weighed, WeightsOk, weights_ok, ok_weights}

-- what a comparison adds
step : ℕ → ℕ → ℕ
step x y = keep (ltb y x) 1

step_mono : (x x' y : ℕ) → x ≤ x' → step x y ≤ step x' y
unfolding step
step_mono x x' y h = go (ltb y x) refl (ltb y x') refl
  where
    go : (a : Bool) → ltb y x ≡ a → (b : Bool) → ltb y x' ≡ b → keep a 1 ≤ keep b 1
    go true e true e' = omega arith
    go true e false e' = absurd (omega (arith, ltb-true y x e, ltb-false y x' e'))
    go false e b e' = omega arith

smaller_mono : (l : List ℕ) (x x' : ℕ) → x ≤ x' → smaller x l ≤ smaller x' l
unfolding smaller step
smaller_mono [] x x' h = omega arith
smaller_mono (y ∷ l) x x' h = omega (arith, step_mono x x' y h, smaller_mono l x x' h)

smaller_lt : (l : List ℕ) (y x : ℕ) → member y l ≡ true → y < x → smaller y l < smaller x l
unfolding smaller step member
smaller_lt [] y x m h = clash {b = false} m refl
smaller_lt (z ∷ l) y x m h = go (eqb y z) refl m (λ m. smaller_lt l y x m h)
  where
    go : (b : Bool) → eqb y z ≡ b → (b || member y l) ≡ true → (member y l ≡ true → smaller y l < smaller x l) → smaller y (z ∷ l) < smaller x (z ∷ l)
    go true e m r = omega (arith, smaller_mono l y x (omega arith), ap {B = ℕ} (λ (t : Bool). keep t 1) (le-ltb z y (omega (arith, eqb-true y z e))), ap {B = ℕ} (λ (t : Bool). keep t 1) (lt-ltb z x (omega (arith, eqb-true y z e))))
    go false e m r = omega (arith, step_mono y x z (omega arith), r m)

module _ (y : ℕ) (l : List ℕ) (P : ℕ → Type 0) (all : (x : ℕ) → member x (y ∷ l) ≡ true → P x) where
  head_in : P y
  unfolding member
  head_in = all y (or_left (member y l) (eq-eqb y y refl))

  tail_in : (x : ℕ) → member x l ≡ true → P x
  unfolding member
  tail_in x m = all x (or_right (eqb x y) m)

-- each number once: the same numbers
member_distinct : (l : List ℕ) (x : ℕ) → member x (distinct l) ≡ member x l
unfolding member distinct
member_distinct [] x = refl
member_distinct (y ∷ l) x = go (member y l) refl (member_distinct l x)
  where
    twice : (b : Bool) → eqb x y ≡ b → member y l ≡ true → member x l ≡ (b || member x l)
    twice true e m = subst (λ (z : ℕ). member z l ≡ true) (sym (eqb-true x y e)) m
    twice false e m = refl

    go : (b : Bool) → member y l ≡ b → member x (distinct l) ≡ member x l → member x (cond b (distinct l) (y ∷ distinct l)) ≡ (eqb x y || member x l)
    go true e r = r ∙ twice (eqb x y) refl e
    go false e r = ap (λ (t : Bool). eqb x y || t) r

-- a renumbering r that keeps order and equality on the numbers in P
module _ (r : ℕ → ℕ) (P : ℕ → Type 0) (up : (x y : ℕ) → P x → P y → x < y → r x < r y) where
  keeps_eqb : (x y : ℕ) → P x → P y → eqb (r x) (r y) ≡ eqb x y
  keeps_eqb x y px py = go (ltb x y) refl (ltb y x) refl
    where
      go : (a : Bool) → ltb x y ≡ a → (b : Bool) → ltb y x ≡ b → eqb (r x) (r y) ≡ eqb x y
      go true e b e' = ne_eqb (r x) (r y) (λ q. omega (arith, up x y px py (ltb-true x y e))) ∙ sym (ne_eqb x y (λ q. omega (arith, ltb-true x y e)))
      go false e true e' = ne_eqb (r x) (r y) (λ q. omega (arith, up y x py px (ltb-true y x e'))) ∙ sym (ne_eqb x y (λ q. omega (arith, ltb-true y x e')))
      go false e false e' = let q : x ≡ y = omega (arith, ltb-false x y e, ltb-false y x e') in eq-eqb (r x) (r y) (ap r q) ∙ sym (eq-eqb x y q)

  keeps_ltb : (x y : ℕ) → P x → P y → ltb (r x) (r y) ≡ ltb x y
  keeps_ltb x y px py = go (ltb x y) refl (ltb y x) refl
    where
      go : (a : Bool) → ltb x y ≡ a → (b : Bool) → ltb y x ≡ b → ltb (r x) (r y) ≡ ltb x y
      go true e b e' = lt-ltb (r x) (r y) (up x y px py (ltb-true x y e)) ∙ sym e
      go false e true e' = le-ltb (r x) (r y) (omega (arith, up y x py px (ltb-true y x e'))) ∙ sym e
      go false e false e' = let q : x ≡ y = omega (arith, ltb-false x y e, ltb-false y x e') in le-ltb (r x) (r y) (omega (arith, ap r q)) ∙ sym e

  member_map : (l : List ℕ) (x : ℕ) → P x → ((y : ℕ) → member y l ≡ true → P y) → member (r x) (map r l) ≡ member x l
  unfolding member
  member_map [] x px all = refl
  member_map (y ∷ l) x px all = ap₂ ◌||◌ (keeps_eqb x y px (head_in y l P all)) (member_map l x px (tail_in y l P all))

  distinct_map : (l : List ℕ) → ((y : ℕ) → member y l ≡ true → P y) → distinct (map r l) ≡ map r (distinct l)
  unfolding distinct
  distinct_map [] all = refl
  distinct_map (y ∷ l) all = ap₂ (λ (t : Bool) (d : List ℕ). cond t d (r y ∷ d)) (member_map l y (head_in y l P all) (tail_in y l P all)) (distinct_map l (tail_in y l P all)) ∙ go (member y l)
    where
      go : (b : Bool) → cond b (map r (distinct l)) (r y ∷ map r (distinct l)) ≡ map r (cond b (distinct l) (y ∷ distinct l))
      go true = refl
      go false = refl

  smaller_map : (l : List ℕ) (x : ℕ) → P x → ((y : ℕ) → member y l ≡ true → P y) → smaller (r x) (map r l) ≡ smaller x l
  unfolding smaller
  smaller_map [] x px all = refl
  smaller_map (y ∷ l) x px all = ap₂ (λ (t : Bool) (n : ℕ). keep t 1 + n) (keeps_ltb y x (head_in y l P all) px) (smaller_map l x px (tail_in y l P all))

-- the weights of the ports that ask
those_in : (n : ℕ) (b : ℕ → Bool) (w : ℕ → ℕ) (i : ℕ) → i < n → b i ≡ true → member (w i) (those n b w) ≡ true
unfolding those member
those_in zero b w i h t = absurd (omega arith)
those_in (suc n) b w zero h t = go (b 0) t
  where
    go : (c : Bool) → c ≡ true → member (w 0) (cond c (w 0 ∷ those n (λ k. b (suc k)) (λ k. w (suc k))) (those n (λ k. b (suc k)) (λ k. w (suc k)))) ≡ true
    go true t = or_left _ (eq-eqb (w 0) (w 0) refl)
    go false t = clash {b = false} t refl
those_in (suc n) b w (suc i) h t = go (b 0) (those_in n (λ k. b (suc k)) (λ k. w (suc k)) i (le_of_suc-le-suc h) t)
  where
    go : (c : Bool) → member (w (suc i)) (those n (λ k. b (suc k)) (λ k. w (suc k))) ≡ true → member (w (suc i)) (cond c (w 0 ∷ those n (λ k. b (suc k)) (λ k. w (suc k))) (those n (λ k. b (suc k)) (λ k. w (suc k)))) ≡ true
    go true m = or_right (eqb (w (suc i)) (w 0)) m
    go false m = m

those_map : (n : ℕ) (b : ℕ → Bool) (w f r : ℕ → ℕ) → ((i : ℕ) → i < n → b i ≡ true → f i ≡ r (w i)) → those n b f ≡ map r (those n b w)
unfolding those
those_map zero b w f r h = refl
those_map (suc n) b w f r h = go (b 0) refl (those_map n (λ k. b (suc k)) (λ k. w (suc k)) (λ k. f (suc k)) r (λ i l t. h (suc i) (suc-le-suc l) t))
  where
    go : (c : Bool) → b 0 ≡ c → those n (λ k. b (suc k)) (λ k. f (suc k)) ≡ map r (those n (λ k. b (suc k)) (λ k. w (suc k)))
        → cond c (f 0 ∷ those n (λ k. b (suc k)) (λ k. f (suc k))) (those n (λ k. b (suc k)) (λ k. f (suc k)))
        ≡ map r (cond c (w 0 ∷ those n (λ k. b (suc k)) (λ k. w (suc k))) (those n (λ k. b (suc k)) (λ k. w (suc k))))
    go true e q = ap₂ ◌∷◌ (h 0 (omega arith) e) q
    go false e q = q

module _ (b : ℕ → Bool) (w : ℕ → ℕ) where
  asked : List ℕ
  asked = those ports b w

  -- the rank of a weight
  place : ℕ → ℕ
  place x = 1 + smaller x (distinct asked)

  place_up : (x y : ℕ) → member x asked ≡ true → member y asked ≡ true → x < y → place x < place y
  unfolding place
  place_up x y px py h = omega (arith, smaller_lt (distinct asked) x y (member_distinct asked x ∙ px) h)

  rank_place : (i : ℕ) → b i ≡ true → rank b w i ≡ place (w i)
  unfolding rank place asked
  rank_place i t = keep_true (place (w i)) t

  -- of two ports that ask, the ranks are in the order of the weights, and equal where these are
  pub rank_order : (i k : ℕ) → i < ports → k < ports → b i ≡ true → b k ≡ true → ltb (rank b w i) (rank b w k) ≡ ltb (w i) (w k)
  unfolding asked
  rank_order i k hi hk ti tk = ap₂ ltb (rank_place i ti) (rank_place k tk) ∙ keeps_ltb place (λ x. member x asked ≡ true) place_up (w i) (w k) (those_in ports b w i hi ti) (those_in ports b w k hk tk)

  -- ranks of ranks
  rank_again : (v : ℕ → ℕ) → ((i : ℕ) → i < ports → v i ≡ rank b w i) → (i : ℕ) → i < ports → rank b v i ≡ rank b w i
  unfolding rank place asked
  rank_again v h i hi = go (b i) refl
    where
      In : ℕ → Type 0
      In x = member x asked ≡ true

      again : those ports b v ≡ map place asked
      again = those_map ports b w v place (λ k hk t. h k hk ∙ rank_place k t)

      go : (c : Bool) → b i ≡ c → keep c (1 + smaller (v i) (distinct (those ports b v))) ≡ keep c (place (w i))
      go true t =
          ap (λ (n : ℕ). 1 + n) (ap₂ smaller (h i hi ∙ rank_place i t) (ap distinct again ∙ distinct_map place In place_up asked (λ y m. m))
          ∙ smaller_map place In place_up (distinct asked) (w i) (those_in ports b w i hi t) (λ y m. sym (member_distinct asked y) ∙ m))
      go false e = refl

pub in_ranks_again : (rows wi : List ℕ) → in_ranks rows (in_ranks rows wi) ≡ in_ranks rows wi
unfolding in_ranks
in_ranks_again rows wi = tab_cong ports _ _ (rank_again (in_asks rows) (at wi) (at (in_ranks rows wi)) (λ i h. get_or_tab ports _ i 0 h))

pub out_ranks_again : (rows wo : List ℕ) → out_ranks rows (out_ranks rows wo) ≡ out_ranks rows wo
unfolding out_ranks
out_ranks_again rows wo = tab_cong ports _ _ (rank_again (out_asks rows) (at wo) (at (out_ranks rows wo)) (λ j h. get_or_tab ports _ j 0 h))

-- equal ranks: the weights of the ports that ask are in the same order
pub ranks_alike : (b : ℕ → Bool) (w v : ℕ → ℕ) → ((i : ℕ) → i < ports → rank b w i ≡ rank b v i) → (i k : ℕ) → i < ports → k < ports → b i ≡ true → b k ≡ true → ltb (w i) (w k) ≡ ltb (v i) (v k)
ranks_alike b w v e i k hi hk ti tk = sym (rank_order b w i k hi hk ti tk) ∙ ap₂ ltb (e i hi) (e k hk) ∙ rank_order b v i k hi hk ti tk

-- THE RANK FORM IS ACCEPTED: each rank is from 1 to 33
smaller_le : (l : List ℕ) (x : ℕ) → smaller x l ≤ length l
unfolding smaller
smaller_le [] x = omega arith
smaller_le (y ∷ l) x = go (ltb y x) (smaller_le l x)
  where
    go : (b : Bool) → smaller x l ≤ length l → keep b 1 + smaller x l ≤ suc (length l)
    go true h = omega arith
    go false h = omega arith

distinct_le : (l : List ℕ) → length (distinct l) ≤ length l
unfolding distinct
distinct_le [] = omega arith
distinct_le (y ∷ l) = go (member y l) (distinct_le l)
  where
    go : (b : Bool) → length (distinct l) ≤ length l → length (cond b (distinct l) (y ∷ distinct l)) ≤ suc (length l)
    go true h = omega arith
    go false h = omega arith

those_le : (n : ℕ) (b : ℕ → Bool) (w : ℕ → ℕ) → length (those n b w) ≤ n
unfolding those
those_le zero b w = omega arith
those_le (suc n) b w = go (b 0) (those_le n (λ k. b (suc k)) (λ k. w (suc k)))
  where
    go : (c : Bool) → length (those n (λ k. b (suc k)) (λ k. w (suc k))) ≤ n → length (cond c (w 0 ∷ those n (λ k. b (suc k)) (λ k. w (suc k))) (those n (λ k. b (suc k)) (λ k. w (suc k)))) ≤ suc n
    go true h = omega arith
    go false h = omega arith

ranked_ok : (b : ℕ → Bool) (w : ℕ → ℕ) → Weighed b (tab ports (rank b w))
unfolding rank
ranked_ok b w = record { low = λ i h e. omega (arith, is i h e); high = λ i h e. omega (arith, is i h e, smaller_le (distinct l) (w i), distinct_le l, those_le ports b w) }
  where
    l : List ℕ
    l = those ports b w

    is : (i : ℕ) → i < ports → b i ≡ true → at (tab ports (rank b w)) i ≡ 1 + smaller (w i) (distinct l)
    is i h e = get_or_tab ports (rank b w) i 0 h ∙ keep_true (1 + smaller (w i) (distinct l)) e

pub rank_form_ok : (M N : ℕ) (rows wi wo : List ℕ) → WeightsOk M N rows wi wo → WeightsOk M N rows (in_ranks rows wi) (out_ranks rows wo)
unfolding in_ranks out_ranks
rank_form_ok M N rows wi wo ok = record { sizes = ok.sizes; narrow = ok.narrow; short = ok.short; inputs = ranked_ok (in_asks rows) (at wi); outputs = ranked_ok (out_asks rows) (at wo) }

-- ranking an accepted rank form gives it again
pub rank_form_again : (M N : ℕ) (rows wi wo : List ℕ) → weight_refusal M N rows wi wo ≡ 0
    → rank_form M N rows (in_ranks rows wi) (out_ranks rows wo) ≡ rank_form M N rows wi wo
unfolding rank_form ranked
rank_form_again M N rows wi wo e = rw (e, ok_weights M N rows (in_ranks rows wi) (out_ranks rows wo) (rank_form_ok M N rows wi wo (weights_ok M N rows wi wo e)), in_ranks_again, out_ranks_again)
