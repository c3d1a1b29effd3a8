-- Lists given place by place, and a match as a list of partners and as a function. Assumes nothing.
use Rattle.std.specs.Prelude.{◌≡◌, refl, ◌⊎◌, Bool, true, false, cond, List, ◌∷◌, ℕ, zero, suc, ◌≤◌, ◌<◌, length, get_or, ltb}
use Rattle.std.proofs.Common.{sym, ap, ap₂, ◌∙◌, suc-le-suc, le_of_suc-le-suc, arith, ltb-true, ltb-false}
use Rattle.std.proofs.Math.Logic.{inl, inr}
use Rattle.std.proofs.Math.ListN.{get_or-eq_default}
use Rattle.masks.specs.Paper.{keep}
use Rattle.masks.specs.Tests.{lt_or_ge, keep_ge}
use Rattle.masks.specs.Sum.{sum_cong}
use Rattle.card.specs.Paper.{ports, none}
use Rattle.matches.specs.Paper.{tab, Match, total, asks, partner, IsMatch}

pub length_tab : (n : ℕ) (f : ℕ → ℕ) → length (tab n f) ≡ n
unfolding tab
length_tab zero f = refl
length_tab (suc n) f = ap suc (length_tab n (λ k. f (suc k)))

pub get_or_tab : (n : ℕ) (f : ℕ → ℕ) (i d : ℕ) → i < n → get_or (tab n f) i d ≡ f i
unfolding tab
get_or_tab zero f i d h = absurd (omega arith)
get_or_tab (suc n) f zero d h = refl
get_or_tab (suc n) f (suc i) d h = get_or_tab n (λ k. f (suc k)) i d (le_of_suc-le-suc h)

pub get_or_tab_out : (n : ℕ) (f : ℕ → ℕ) (i d : ℕ) → n ≤ i → get_or (tab n f) i d ≡ d
get_or_tab_out n f i d h = get_or-eq_default (tab n f) d (omega (arith, length_tab n f))

pub tab_cong : (n : ℕ) (f g : ℕ → ℕ) → ((i : ℕ) → i < n → f i ≡ g i) → tab n f ≡ tab n g
unfolding tab
tab_cong zero f g h = refl
tab_cong (suc n) f g h = ap₂ ◌∷◌ (h 0 (omega arith)) (tab_cong n (λ k. f (suc k)) (λ k. g (suc k)) (λ i l. h (suc i) (suc-le-suc l)))

-- a place of a partner list that names an output is an input's
pub partner_in : (p : List ℕ) → length p ≡ ports → (i : ℕ) → partner p i < ports → i < ports
partner_in p l i h = go (lt_or_ge i ports)
  where
    go : (i < ports) ⊎ (ports ≤ i) → i < ports
    go (inl q) = q
    go (inr q) = absurd (omega (arith, get_or-eq_default p none {n = i} (omega (arith, l))))

-- ---- from a function to a list

-- none for what is no output
unfoldable pub tidy : ℕ → ℕ
tidy j = cond (ltb j ports) j none

unfoldable pub list_of : (ℕ → ℕ) → List ℕ
list_of q = tab ports (λ i. tidy (q i))

tidy_cases : (j : ℕ) → ((j < ports) × (tidy j ≡ j)) ⊎ ((ports ≤ j) × (tidy j ≡ none))
unfolding tidy
tidy_cases j = go (ltb j ports) refl
  where
    go : (b : Bool) → ltb j ports ≡ b → ((j < ports) × (cond b j none ≡ j)) ⊎ ((ports ≤ j) × (cond b j none ≡ none))
    go true e = inl (ltb-true j ports e, refl)
    go false e = inr (ltb-false j ports e, refl)

pub partner_list : (q : ℕ → ℕ) (i : ℕ) → i < ports → partner (list_of q) i ≡ tidy (q i)
unfolding list_of
partner_list q i h = get_or_tab ports (λ i. tidy (q i)) i none h

-- a place that names an output is an input, and names what q does
pub named_list : (q : ℕ → ℕ) (i : ℕ) → partner (list_of q) i < ports → (i < ports) × (partner (list_of q) i ≡ q i)
unfolding list_of
named_list q i h = go (ltb i ports) refl
  where
    go : (b : Bool) → ltb i ports ≡ b → (i < ports) × (partner (list_of q) i ≡ q i)
    go true e = let l = ltb-true i ports e in (l, at l (tidy_cases (q i)))
      where
        at : i < ports → ((q i < ports) × (tidy (q i) ≡ q i)) ⊎ ((ports ≤ q i) × (tidy (q i) ≡ none)) → partner (list_of q) i ≡ q i
        at l (inl c) = partner_list q i l ∙ c.1
        at l (inr c) = absurd (omega (arith, partner_list q i l, c.1))
    go false e = absurd (omega (arith, get_or_tab_out ports (λ i. tidy (q i)) i none (ltb-false i ports e)))

module _ (rows : List ℕ) (q : ℕ → ℕ) (m : Match (asks rows) ports ports q) where
  pub list_match : IsMatch rows (list_of q)
  unfolding list_of
  list_match = record {
    full = length_tab ports (λ i. tidy (q i));
    named = λ i. named i (lt_or_ge i ports);
    match = record { asked = asked; apart = apart };
  }
    where
      named : (i : ℕ) → (i < ports) ⊎ (ports ≤ i) → (partner (list_of q) i < ports) ⊎ (partner (list_of q) i ≡ none)
      named i (inl e) = go (tidy_cases (q i))
        where
          go : ((q i < ports) × (tidy (q i) ≡ q i)) ⊎ ((ports ≤ q i) × (tidy (q i) ≡ none)) → (partner (list_of q) i < ports) ⊎ (partner (list_of q) i ≡ none)
          go (inl c) = inl (omega (arith, partner_list q i e, c.0, c.1))
          go (inr c) = inr (partner_list q i e ∙ c.1)
      named i (inr e) = inr (get_or_tab_out ports (λ i. tidy (q i)) i none e)

      asked : (i : ℕ) → i < ports → partner (list_of q) i < ports → asks rows i (partner (list_of q) i) ≡ true
      asked i li h = let e = (named_list q i h).1 in rw e (m.asked i li (omega arith))

      apart : (i k : ℕ) → i < ports → k < ports → partner (list_of q) i < ports → partner (list_of q) i ≡ partner (list_of q) k → i ≡ k
      apart i k li lk h e = let a = (named_list q i h).1 in let b = (named_list q k (omega arith)).1 in m.apart i k li lk (omega arith) (omega arith)

-- the list is worth what the function is
pub list_total : (g : ℕ → ℕ → ℕ) (q : ℕ → ℕ) → total ports ports g (partner (list_of q)) ≡ total ports ports g q
list_total g q = sum_cong ports (λ i. keep (ltb (partner (list_of q) i) ports) (g i (partner (list_of q) i))) (λ i. keep (ltb (q i) ports) (g i (q i))) (λ i h. go i h (tidy_cases (q i)))
  where
    worth : ℕ → ℕ → ℕ
    worth i j = keep (ltb j ports) (g i j)

    go : (i : ℕ) → i < ports → ((q i < ports) × (tidy (q i) ≡ q i)) ⊎ ((ports ≤ q i) × (tidy (q i) ≡ none)) → worth i (partner (list_of q) i) ≡ worth i (q i)
    go i h (inl c) = ap (worth i) (partner_list q i h ∙ c.1)
    go i h (inr c) = ap (worth i) (partner_list q i h ∙ c.1) ∙ sym (keep_ge (q i) ports (g i (q i)) c.0)
