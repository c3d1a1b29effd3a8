-- How the ranks are computed: the distinct weights of the ports that ask, found from the last port to the first, at the end of a list.
-- Assumes nothing.
use Rattle.std.specs.Prelude.{◌≡◌, refl, Bool, true, false, cond, not, ◌||◌, length, drop, set, eqb, ltb}
use Rattle.std.proofs.Common.{sym, ap₂, subst, ◌∙◌, length-set, drop-cons, drop-set-lt, get_or-set_same}
use Rattle.std.proofs.Math.Path.{ap}
use mathlib.Core.List.{List, [], ◌∷◌}
use Prim.Native.Nat.{ℕ, zero, suc, ◌+◌, ◌-◌, ◌≤◌, ◌<◌, suc-le-suc}
use native.Mathlib.Omega.{arith}
use Rattle.std.proofs.Math.ListN.{drop_of_length-le}
use borrow.Author.Tests.{eqb-true, eq-eqb}
use Rattle.masks.specs.Paper.{keep, sum}
use Rattle.masks.specs.Sum.{sum_step}
use Rattle.masks.specs.Tests.{clash, same_test, keep_lt, keep_ge, keep_le}
use Rattle.masks.proofs.Chains.{count_by_places}
use Rattle.std.specs.List.{list_any, count_by}
use Rattle.std.proofs.lemmas.List.Sums.{sum_by-cons}
use Rattle.card.specs.Paper.{ports}
use Rattle.matches.specs.Paper.{at, tab, member, those, distinct, smaller, rank}
use Rattle.matches.proofs.Lists.{tab_cong}

-- one port more in front of the distinct weights l
unfoldable pub add_to : Bool → ℕ → List ℕ → List ℕ
add_to asks x l = cond asks (cond (member x l) l (x ∷ l)) l

-- what one port more changes in a list whose distinct weights stand from place `from` on
pub record Added (asks : Bool) (x from : ℕ) (l : List ℕ) (from' : ℕ) (l' : List ℕ) : Type 0 where
  pub room : from ≤ from' + 1
  pub top : from' ≤ ports
  pub levels : drop from' l' ≡ add_to asks x (drop from l)

-- the weights of those of the ports i, .., i + n − 1 that ask
unfoldable pub later : (n i : ℕ) → (ℕ → Bool) → (ℕ → ℕ) → List ℕ
later zero i b w = []
later (suc n) i b w = let r = later n (suc i) b w in cond (b i) (w i ∷ r) r

-- the ports from i on are passed: their distinct weights stand in l from place `from` on
pub record Found (b : ℕ → Bool) (w : ℕ → ℕ) (i from : ℕ) (l : List ℕ) : Type 0 where
  pub low : i ≤ from
  pub top : from ≤ ports
  pub levels : drop from l ≡ distinct (later (ports - i) i b w)

-- ---- as std's `contains` and a filtered count say it

eqb_turned : (x y : ℕ) → eqb y x ≡ eqb x y
eqb_turned x y = same_test (λ e. eq-eqb x y (sym (eqb-true y x e))) (λ e. eq-eqb y x (sym (eqb-true x y e)))

pub member_any : (x : ℕ) (l : List ℕ) → list_any (λ y. eqb y x) l ≡ member x l
unfolding member
member_any x [] = refl
member_any x (y ∷ l) = ap₂ ◌||◌ (eqb_turned x y) (member_any x l)

pub smaller_count : (x : ℕ) (l : List ℕ) → count_by (λ y. ltb y x) l ≡ smaller x l
unfolding smaller
smaller_count x [] = refl
smaller_count x (y ∷ l) = sum_by-cons (λ z. cond (ltb z x) 1 0) y l ∙ ap₂ ◌+◌ (kept (ltb y x)) (smaller_count x l)
  where
    kept : (b : Bool) → cond b 1 0 ≡ keep b 1
    kept true = refl
    kept false = refl

-- ---- as a loop counts them, level by level: 1, and 1 for each of the first k of l that is smaller

unfoldable pub counted : (x k : ℕ) (l : List ℕ) → ℕ
counted x k l = 1 + sum k (λ i. keep (ltb (at l i) x) 1)

pub counted_none : (x : ℕ) (l : List ℕ) → 1 ≡ counted x 0 l
unfolding sum counted
counted_none x l = refl

pub counted_smaller : (x k r : ℕ) (l : List ℕ) → r ≡ counted x k l → at l k < x → r + 1 ≡ counted x (k + 1) l
unfolding counted
counted_smaller x k r l e h = omega (arith, e, sum_step k (λ i. keep (ltb (at l i) x) 1), keep_lt (at l k) x 1 h)

pub counted_other : (x k r : ℕ) (l : List ℕ) → r ≡ counted x k l → x ≤ at l k → r ≡ counted x (k + 1) l
unfolding counted
counted_other x k r l e h = omega (arith, e, sum_step k (λ i. keep (ltb (at l i) x) 1), keep_ge (at l k) x 1 h)

pub counted_few : (x k : ℕ) (l : List ℕ) → counted x k l ≤ 1 + k
unfolding sum counted
counted_few x zero l = omega arith
counted_few x (suc k) l = omega (arith, counted_few x k l, keep_le (ltb (at l k) x) 1)

pub counted_all : (x : ℕ) (l : List ℕ) → counted x (length l) l ≡ 1 + smaller x l
unfolding counted
counted_all x l = ap (λ (n : ℕ). 1 + n) (sym (count_by_places (λ y. ltb y x) l 0) ∙ smaller_count x l)

-- ---- one port more: it does not ask, its weight is there already, or it is new

pub add_silent : (asks : Bool) (x from : ℕ) (l : List ℕ) → from ≤ ports → not asks ≡ true → Added asks x from l from l
unfolding add_to
add_silent true x from l h e = clash {b = false} e refl
add_silent false x from l h e = record { room = omega arith; top = h; levels = refl }

pub add_again : (asks : Bool) (x from : ℕ) (l : List ℕ) → from ≤ ports → member x (drop from l) ≡ true → Added asks x from l from l
unfolding add_to
add_again true x from l h e = record { room = omega arith; top = h; levels = rw e }
add_again false x from l h e = record { room = omega arith; top = h; levels = refl }

-- x written in front of what stands from place j + 1 on
drop_set : (l : List ℕ) (j x : ℕ) → j < length l → drop j (set l j x) ≡ x ∷ drop (suc j) l
drop_set l j x h =
    drop-cons (set l j x) j 0 (omega (arith, length-set l j x)) ∙ ap₂ ◌∷◌ (get_or-set_same l j x 0 h) (drop-set-lt (suc j) l j x (omega arith))

pub add_new : (asks : Bool) (x from : ℕ) (l : List ℕ) → 1 ≤ from → from ≤ ports → length l ≡ ports → not asks ≡ false → member x (drop from l) ≡ false
    → Added asks x from l (from - 1) (set l (from - 1) x)
unfolding add_to
add_new asks x zero l h u n t e = absurd (omega arith)
add_new false x (suc j) l h u n t e = clash {b = true} refl t
add_new true x (suc j) l h u n t e =
    let s : suc j - 1 ≡ j = omega arith in
    rw s (record { room = omega arith; top = omega arith; levels = rw e (drop_set l j x (omega arith)) })

-- ---- distinct weights, one port after another

-- each number once: the same numbers
member_distinct : (l : List ℕ) (x : ℕ) → member x (distinct l) ≡ member x l
unfolding member distinct
member_distinct [] x = refl
member_distinct (y ∷ l) x = go (member y l) refl (member_distinct l x)
  where
    twice : (b : Bool) → eqb x y ≡ b → member y l ≡ true → member x l ≡ (b || member x l)
    twice true e m = subst (λ (z : ℕ). member z l ≡ true) (sym (eqb-true x y e)) m
    twice false e m = refl

    go : (b : Bool) → member y l ≡ b → member x (distinct l) ≡ member x l → member x (cond b (distinct l) (y ∷ distinct l)) ≡ (eqb x y || member x l)
    go true e r = r ∙ twice (eqb x y) refl e
    go false e r = ap (λ (t : Bool). eqb x y || t) r

add_distinct : (asks : Bool) (x : ℕ) (l : List ℕ) → add_to asks x (distinct l) ≡ distinct (cond asks (x ∷ l) l)
unfolding add_to distinct
add_distinct true x l = rw member_distinct
add_distinct false x l = refl

later_shift : (n i : ℕ) (b : ℕ → Bool) (w : ℕ → ℕ) → later n (suc i) b w ≡ later n i (λ k. b (suc k)) (λ k. w (suc k))
unfolding later
later_shift zero i b w = refl
later_shift (suc n) i b w = ap (λ (r : List ℕ). cond (b (suc i)) (w (suc i) ∷ r) r) (later_shift n (suc i) b w)

later_those : (n : ℕ) (b : ℕ → Bool) (w : ℕ → ℕ) → later n 0 b w ≡ those n b w
unfolding later those
later_those zero b w = refl
later_those (suc n) b w =
    ap (λ (r : List ℕ). cond (b 0) (w 0 ∷ r) r) (later_shift n 0 b w ∙ later_those n (λ k. b (suc k)) (λ k. w (suc k)))

module _ (b : ℕ → Bool) (w : ℕ → ℕ) where
  pub found_none : (l : List ℕ) → length l ≡ ports → Found b w ports ports l
  unfolding later distinct
  found_none l h = record { low = omega arith; top = omega arith; levels = drop_of_length-le l {i = ports} (omega arith) }

  pub found_more : (i from : ℕ) (l : List ℕ) (from' : ℕ) (l' : List ℕ) → 1 ≤ i → Found b w i from l
      → Added (b (i - 1)) (w (i - 1)) from l from' l' → Found b w (i - 1) from' l'
  unfolding later
  found_more zero from l from' l' h f a = absurd (omega arith)
  found_more (suc i) from l from' l' h f a =
      let s : suc i - 1 ≡ i = omega arith in
      let n : ports - i ≡ suc (ports - suc i) = omega (arith, f.low, f.top) in
      rw s (record {
        low = omega (arith, f.low, a.room);
        top = a.top;
        levels = (rw s at a.levels) ∙ ap (add_to (b i) (w i)) f.levels ∙ add_distinct (b i) (w i) (later (ports - suc i) (suc i) b w)
            ∙ ap (λ (m : ℕ). distinct (later m i b w)) (sym n);
      })

  pub found_rank : (from : ℕ) (l : List ℕ) → Found b w 0 from l → (i : ℕ) → keep (b i) (1 + smaller (w i) (drop from l)) ≡ rank b w i
  unfolding rank
  found_rank from l f i = ap (λ (d : List ℕ). keep (b i) (1 + smaller (w i) d)) (f.levels ∙ ap distinct (later_those ports b w))

-- ---- ranks depend on what ports ask, and on no number past them

those_cong : (n : ℕ) (b c : ℕ → Bool) (w : ℕ → ℕ) → ((i : ℕ) → i < n → b i ≡ c i) → those n b w ≡ those n c w
unfolding those
those_cong zero b c w h = refl
those_cong (suc n) b c w h =
    ap₂ (λ (t : Bool) (r : List ℕ). cond t (w 0 ∷ r) r) (h 0 (omega arith))
    (those_cong n (λ k. b (suc k)) (λ k. c (suc k)) (λ k. w (suc k)) (λ i l. h (suc i) (suc-le-suc l)))

pub rank_cong : (b c : ℕ → Bool) (w : ℕ → ℕ) → ((i : ℕ) → i < 32 → b i ≡ c i) → tab 32 (rank b w) ≡ tab 32 (rank c w)
unfolding rank
rank_cong b c w h =
    tab_cong 32 (rank b w) (rank c w) (λ i l. ap₂ (λ (t : Bool) (r : List ℕ). keep t (1 + smaller (w i) (distinct r))) (h i l) (those_cong 32 b c w h))
