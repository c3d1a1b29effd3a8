-- The arrivals of M inputs: input by input, as a loop puts them in, and as they are read. Assumes nothing.
use Rattle.std.specs.Prelude.{◌≡◌, refl, ◌⊎◌, ◌≢◌, Bool, false, ℕ, zero, suc, ◌+◌, ◌≤◌, ◌<◌, set, replicate}
use Rattle.std.proofs.Common.{sym, ◌∙◌, inl, inr, le_of_suc-le-suc, arith}
use Rattle.std.proofs.Math.Path.{ap, ap₂}
use Rattle.std.proofs.Math.Bool.{true, cond}
use mathlib.Core.List.{List, [], ◌∷◌, map}
use Rattle.std.proofs.Math.ListN.{get_or-map}
use Rattle.std.proofs.Math.Dec.{ltb}
use borrow.Author.Tests.{ltb-true, lt-ltb, le-ltb}
use Rattle.masks.specs.Paper.{keep}
use Rattle.masks.specs.Tests.{cases, lt_or_ge, keep_lt, keep_ge, keep_cong}
use Rattle.card.specs.declared.Arrivals.{Arrivals}
use Rattle.card.specs.declared.Out.{Out}
use Rattle.card.specs.Paper.{ports, none, out, output_at, cell_at, no_arrivals}
use Rattle.matches.specs.Paper.{tab}
use Rattle.matches.proofs.Lists.{get_or_tab, tab_cong}
use Rattle.slotlog.specs.Paper.{arrivals_of}

-- each answer to the numbers below m is an output of f and a cell of g
abbrev pub Gives : (ℕ → ℕ × ℕ → Type 0) → (m : ℕ) → (f g : ℕ → ℕ) → Type 0
Gives answers m f g = (i : ℕ) (arrival : ℕ × ℕ) → i < m → answers i arrival → (arrival.0 ≡ f i) × (arrival.1 ≡ g i)

-- the arrivals, with an output and a cell at input i
abbrev pub arrived : (i output cell : ℕ) → Arrivals → Arrivals
arrived i output cell a = record { outputs = set a.outputs i (out output); cells = set a.cells i cell }

-- ---- lists given place by place

tab_same : (n v : ℕ) (f : ℕ → ℕ) → ((i : ℕ) → f i ≡ v) → replicate n v ≡ tab n f
unfolding tab
tab_same zero v f h = refl
tab_same (suc n) v f h = ap₂ ◌∷◌ (sym (h 0)) (tab_same n v (λ k. f (suc k)) (λ k. h (suc k)))

outs_same : (n v : ℕ) → replicate n (out v) ≡ map out (replicate n v)
outs_same zero v = refl
outs_same (suc n) v = ap (λ (l : List Out). out v ∷ l) (outs_same n v)

-- a store at i makes g of f, where these differ at i alone
set_tab : (n i : ℕ) (f g : ℕ → ℕ) → i < n → ((k : ℕ) → k ≢ i → f k ≡ g k) → set (tab n f) i (g i) ≡ tab n g
unfolding tab
set_tab zero i f g h e = absurd (omega arith)
set_tab (suc n) zero f g h e = ap (λ (l : List ℕ). g 0 ∷ l) (tab_cong n (λ k. f (suc k)) (λ k. g (suc k)) (λ k l. e (suc k) (λ q. absurd (omega arith))))
set_tab (suc n) (suc i) f g h e =
    ap₂ ◌∷◌ (e 0 (λ q. absurd (omega arith))) (set_tab n i (λ k. f (suc k)) (λ k. g (suc k)) (le_of_suc-le-suc h) (λ k d. e (suc k) (λ q. d (omega arith))))

set_outs : (l : List ℕ) (i v : ℕ) → set (map out l) i (out v) ≡ map out (set l i v)
set_outs [] i v = refl
set_outs (x ∷ l) zero v = refl
set_outs (x ∷ l) (suc i) v = ap (λ (r : List Out). out x ∷ r) (set_outs l i v)

-- ---- put in, input by input

-- below i and below i + 1 is the same of each input but i
same_below : (k i : ℕ) → k ≢ i → ltb k i ≡ ltb k (i + 1)
same_below k i d = go (lt_or_ge k i)
  where
    go : (k < i) ⊎ (i ≤ k) → ltb k i ≡ ltb k (i + 1)
    go (inl h) = lt-ltb k i h ∙ sym (lt-ltb k (i + 1) (omega arith))
    go (inr h) = le-ltb k i h ∙ sym (le-ltb k (i + 1) (omega (arith, d)))

module _ (f g : ℕ → ℕ) where
  pub arrived_none : no_arrivals ≡ arrivals_of 0 f g
  unfolding no_arrivals arrivals_of
  arrived_none =
      ap₂ (λ (o : List Out) (l : List ℕ). record { outputs = o; cells = l })
      (outs_same ports none ∙ ap (map out) (tab_same ports none (λ i. cond (ltb i 0) (f i) none) (λ i. rw (le-ltb i 0 (omega arith)))))
      (tab_same ports 0 (λ i. keep (ltb i 0) (g i)) (λ i. keep_ge i 0 (g i) (omega arith)))

  -- one input more, in the form of a loop's counter
  pub arrived_step : (i : ℕ) (a : Arrivals) → i < ports → a ≡ arrivals_of i f g → arrived i (f i) (g i) a ≡ arrivals_of (i + 1) f g
  unfolding arrivals_of
  arrived_step i a h e =
      let here : ltb i (i + 1) ≡ true = lt-ltb i (i + 1) (omega arith) in
      ap (arrived i (f i) (g i)) e
      ∙ ap₂ (λ (o : List Out) (l : List ℕ). record { outputs = o; cells = l })
      (set_outs (tab ports (λ k. cond (ltb k i) (f k) none)) i (f i)
      ∙ ap (map out) (rw here at (set_tab ports i (λ k. cond (ltb k i) (f k) none) (λ k. cond (ltb k (i + 1)) (f k) none) h (λ k d. rw (same_below k i d)))))
      (rw here at (set_tab ports i (λ k. keep (ltb k i) (g k)) (λ k. keep (ltb k (i + 1)) (g k)) h (λ k d. rw (same_below k i d))))

-- ---- as they are read

module _ (M : ℕ) (f g : ℕ → ℕ) (i : ℕ) (inside : i < M) (most : M ≤ ports) where
  pub output_of : output_at (arrivals_of M f g) i ≡ f i
  unfolding arrivals_of
  output_of =
      ap (λ (o : Out). o.0) (get_or-map out (tab ports (λ i. cond (ltb i M) (f i) none)) i 0)
      ∙ get_or_tab ports _ i 0 (omega arith)
      ∙ ap (λ (t : Bool). cond t (f i) none) (lt-ltb i M inside)

  pub cell_of : cell_at (arrivals_of M f g) i ≡ g i
  unfolding arrivals_of
  cell_of = get_or_tab ports _ i 0 (omega arith) ∙ keep_lt i M (g i) inside

-- "none with 0 where nothing arrives": what is given from M on does not count
pub arrivals_cong : (M : ℕ) (f f' g g' : ℕ → ℕ) → ((i : ℕ) → i < M → f i ≡ f' i) → ((i : ℕ) → i < M → g i ≡ g' i) → arrivals_of M f g ≡ arrivals_of M f' g'
unfolding arrivals_of
arrivals_cong M f f' g g' ef eg =
    ap₂ (λ (os cs : List ℕ). record { outputs = map out os; cells = cs })
    (tab_cong ports _ _ (λ i l. output i (cases (ltb i M))))
    (tab_cong ports _ _ (λ i l. keep_cong (ltb i M) (g i) (g' i) (λ t. eg i (ltb-true i M t))))
  where
    output : (i : ℕ) → (ltb i M ≡ true) ⊎ (ltb i M ≡ false) → cond (ltb i M) (f i) none ≡ cond (ltb i M) (f' i) none
    output i (inl t) = rw t (ef i (ltb-true i M t))
    output i (inr t) = rw t
