-- Document 01, "Requests, totals, weights", with the refusals of the three matching functions. This file is what a reader must believe.
-- Assumes nothing. A list of numbers read past its end gives 0, and a list of partners none.
use Rattle.std.specs.Prelude.{◌≡◌, ◌⊎◌, Bool, true, false, cond, not, ◌&&◌, ◌||◌, List, [], ◌∷◌, ℕ, zero, suc, ◌+◌, ◌*◌, ◌≤◌, ◌<◌, length, get_or, leb, ltb, eqb}
use Rattle.masks.specs.Paper.{has, keep, every, some, sum}
use Rattle.card.specs.Paper.{ports, none, unless, ports_fit, names_below}

-- entry i of a list of numbers
abbrev pub at : List ℕ → ℕ → ℕ
at l i = get_or l i 0

-- f 0, .., f (n − 1)
unfoldable pub tab : ℕ → (ℕ → ℕ) → List ℕ
tab zero f = []
tab (suc n) f = f 0 ∷ tab n (λ k. f (suc k))

unfoldable pub member : ℕ → List ℕ → Bool
member x [] = false
member x (y ∷ l) = eqb x y || member x l

-- A MATCH of I inputs and J outputs. E i j: input i requests output j. p i: the partner of input i, which is matched where p i < J

-- "A match is a set of requests with no input and no output twice"
pub record Match (E : ℕ → ℕ → Bool) (I J : ℕ) (p : ℕ → ℕ) : Type 0 where
  pub asked : (i : ℕ) → i < I → p i < J → E i (p i) ≡ true
  pub apart : (i k : ℕ) → i < I → k < I → p i < J → p i ≡ p k → i ≡ k

-- the sum of g i j over the pairs (i, j) of p
abbrev pub total : (I J : ℕ) → (ℕ → ℕ → ℕ) → (ℕ → ℕ) → ℕ
total I J g p = sum I (λ i. keep (ltb (p i) J) (g i (p i)))

-- "Its size is the number of pairs, its weight the sum of theirs"; "A request weighs R(i) + C(j)"
abbrev pub size : (I J : ℕ) → (ℕ → ℕ) → ℕ
size I J p = total I J (λ i j. 1) p

abbrev pub weight : (I J : ℕ) → (w v p : ℕ → ℕ) → ℕ
weight I J w v p = total I J (λ i j. w i + v j) p

-- THE CARD'S: "thirty-two request rows", each "a 32-bit mask", "with 32 input weights and 32 output weights"; an answer has 32 partners

-- input i requests output j
unfoldable pub asks : List ℕ → ℕ → ℕ → Bool
asks rows i j = has (at rows i) j

abbrev pub partner : List ℕ → ℕ → ℕ
partner p i = get_or p i none

pub record IsMatch (rows p : List ℕ) : Type 0 where
  pub full : length p ≡ ports
  pub named : (i : ℕ) → (partner p i < ports) ⊎ (partner p i ≡ none)
  pub match : Match (asks rows) ports ports (partner p)

unfoldable pub size_of : List ℕ → ℕ
size_of p = size ports ports (partner p)

unfoldable pub weight_of : (wi wo p : List ℕ) → ℕ
weight_of wi wo p = weight ports ports (at wi) (at wo) (partner p)

-- "write each as its partners for input 0, 1, 2 and so on, with 'none' after every output": p comes at or before q in dictionary order
abbrev pub First : List ℕ → List ℕ → Type 0
First [] q = Unit {0}
First (x ∷ p) [] = ⊥
First (x ∷ p) (y ∷ q) = (x < y) ⊎ ((x ≡ y) × First p q)

-- "The answer is a match of greatest weight. Among those .. take the first in dictionary order"
pub record Best (rows wi wo p : List ℕ) : Type 0 where
  pub match : IsMatch rows p
  pub heaviest : (q : List ℕ) → IsMatch rows q → weight_of wi wo q ≤ weight_of wi wo p
  pub first : (q : List ℕ) → IsMatch rows q → weight_of wi wo q ≡ weight_of wi wo p → First p q

-- THE SAME, COMPUTED: try each partner of input 0 in order, none last, each with the best of the rest; keep a later one only where it is heavier

-- partners for the inputs left, and what these weigh
pub record Part : Type 0 where
  pub partners : List ℕ
  pub weighs : ℕ

-- what input i adds with partner j
unfoldable pub gain : (wi wo : List ℕ) → ℕ → ℕ → ℕ
gain wi wo i j = keep (ltb j ports) (at wi i + at wo j)

unfoldable pub add : ℕ → ℕ → Part → Part
add j w rest = record { partners = j ∷ rest.partners; weighs = w + rest.weighs }

unfoldable pub heavier : Part → Part → Part
heavier a b = cond (ltb a.weighs b.weighs) b a

-- of the candidates j, .., j + m − 1 that are free, and the last one
unfoldable pub pick : (m j : ℕ) → (ℕ → Bool) → (ℕ → Part) → Part → Part
pick zero j free with last = last
pick (suc m) j free with last = elim (free j) [ true ↦ heavier (with j) (pick m (suc j) free with last) | false ↦ pick m (suc j) free with last ]

module _ (rows wi wo : List ℕ) where
  -- for n inputs from i on, where the outputs `taken` are in use
  unfoldable pub best_from : (n i : ℕ) → List ℕ → Part
  best_from zero i taken = record { partners = []; weighs = 0 }
  best_from (suc n) i taken =
      pick ports 0 (λ j. asks rows i j && not (member j taken)) (λ j. add j (gain wi wo i j) (best_from n (suc i) (j ∷ taken))) (add none 0 (best_from n (suc i) taken))

  unfoldable pub best : List ℕ
  best = (best_from ports 0 []).partners

-- TOTALS: "a table of counts and a hold (a lent list of M·N 16-bit counts ..)" as requests and port weights

-- the number whose bit j, for j below n, is set where b j holds
unfoldable pub mask : ℕ → (ℕ → Bool) → ℕ
mask zero b = 0
mask (suc n) b = keep (b 0) 1 + 2 * mask n (λ k. b (suc k))

module _ (M N : ℕ) (counts : List ℕ) where
  unfoldable pub count : ℕ → ℕ → ℕ
  count i j = at counts (i * N + j)

  -- "R(i) is the sum of all counts in row i, C(j) the sum in column j .. held outputs are included"
  unfoldable pub R : ℕ → ℕ
  R i = sum N (λ j. count i j)

  unfoldable pub C : ℕ → ℕ
  C j = sum M (λ i. count i j)

  unfoldable pub table_in : List ℕ
  table_in = tab ports (λ i. keep (ltb i M) (R i))

  unfoldable pub table_out : List ℕ
  table_out = tab ports (λ j. keep (ltb j N) (C j))

  -- "Input i requests output j when its queue is not empty and j is not held"
  unfoldable pub wants : (hold i j : ℕ) → Bool
  wants hold i j = ltb i M && (ltb j N && (ltb 0 (count i j) && not (has hold j)))

  unfoldable pub table_rows : ℕ → List ℕ
  table_rows hold = tab ports (λ i. mask ports (wants hold i))

-- RANKS: "A port without a request has rank 0. Another input has 1 plus the number of distinct smaller weights among requesting inputs; outputs likewise"

-- the ports that have a request
unfoldable pub in_asks : List ℕ → ℕ → Bool
in_asks rows i = some ports (λ j. asks rows i j)

unfoldable pub out_asks : List ℕ → ℕ → Bool
out_asks rows j = some ports (λ i. asks rows i j)

-- those of w 0, .., w (n − 1) whose b holds
unfoldable pub those : ℕ → (ℕ → Bool) → (ℕ → ℕ) → List ℕ
those zero b w = []
those (suc n) b w = let r = those n (λ k. b (suc k)) (λ k. w (suc k)) in cond (b 0) (w 0 ∷ r) r

-- each number of a list once
unfoldable pub distinct : List ℕ → List ℕ
distinct [] = []
distinct (x ∷ l) = let r = distinct l in cond (member x l) r (x ∷ r)

-- how many of l are smaller than x
unfoldable pub smaller : ℕ → List ℕ → ℕ
smaller x [] = 0
smaller x (y ∷ l) = keep (ltb y x) 1 + smaller x l

unfoldable pub rank : (ℕ → Bool) → (ℕ → ℕ) → ℕ → ℕ
rank b w i = keep (b i) (1 + smaller (w i) (distinct (those ports b w)))

unfoldable pub in_ranks : (rows wi : List ℕ) → List ℕ
in_ranks rows wi = tab ports (rank (in_asks rows) (at wi))

unfoldable pub out_ranks : (rows wo : List ℕ) → List ℕ
out_ranks rows wo = tab ports (rank (out_asks rows) (at wo))

-- REFUSALS of the three matching functions, in their order: "Table match: 1, 2, 3. Weighted match and rank form: 1, 5, 6". 0: accepted

-- 5: "a row has a bit ≥ N, or a row ≥ M is not 0"
abbrev pub row_fits : (M N i row : ℕ) → Bool
row_fits M N i row = names_below N row && (ltb i M || eqb row 0)

unfoldable pub rows_fit : (M N : ℕ) → List ℕ → Bool
rows_fit M N rows = every ports (λ i. row_fits M N i (at rows i))

-- "A port with a request has a weight from 1 to 2,097,120 (32 × 65,535). The weight of a port without a request is ignored"
abbrev pub max_weight : ℕ
max_weight = 2097120

-- 6: "a requesting port's weight is 0 or above 2,097,120"
abbrev pub weight_fits : Bool → ℕ → Bool
weight_fits asking w = not asking || (leb 1 w && leb w max_weight)

unfoldable pub weights_fit : (rows wi wo : List ℕ) → Bool
weights_fit rows wi wo = every ports (λ i. weight_fits (in_asks rows i) (at wi i)) && every ports (λ j. weight_fits (out_asks rows j) (at wo j))

-- 2: "a lent list has the wrong length"; 3: "a hold names an output ≥ N"
unfoldable pub table_refusal : (M N : ℕ) → List ℕ → ℕ → ℕ
table_refusal M N counts hold = unless (ports_fit M N) 1 (unless (eqb (length counts) (M * N)) 2 (unless (names_below N hold) 3 0))

unfoldable pub weight_refusal : (M N : ℕ) (rows wi wo : List ℕ) → ℕ
weight_refusal M N rows wi wo = unless (ports_fit M N) 1 (unless (rows_fit M N rows) 5 (unless (weights_fit rows wi wo) 6 0))

-- ANSWERS: "An answer holds 32 partners, the size and the weight"; "A refused match or rank form has partners none and all else 0"

pub record Answer : Type 0 where
  pub refusal : ℕ
  pub partners : List ℕ
  pub pairs : ℕ
  pub weighs : ℕ

unfoldable pub answer : ℕ → (rows wi wo : List ℕ) → Answer
answer zero rows wi wo = let p = best rows wi wo in record { refusal = 0; partners = p; pairs = size_of p; weighs = weight_of wi wo p }
answer (suc k) rows wi wo = record { refusal = suc k; partners = tab ports (λ i. none); pairs = 0; weighs = 0 }

unfoldable pub table_match : (M N : ℕ) → List ℕ → ℕ → Answer
table_match M N counts hold = answer (table_refusal M N counts hold) (table_rows M N counts hold) (table_in M N counts) (table_out M N counts)

unfoldable pub weight_match : (M N : ℕ) (rows wi wo : List ℕ) → Answer
weight_match M N rows wi wo = answer (weight_refusal M N rows wi wo) rows wi wo

-- "Rank form: same rows, each weight replaced by a rank"
pub record RankForm : Type 0 where
  pub refusal : ℕ
  pub rows : List ℕ
  pub inputs : List ℕ
  pub outputs : List ℕ

unfoldable pub ranked : ℕ → (rows wi wo : List ℕ) → RankForm
ranked zero rows wi wo = record { refusal = 0; rows = rows; inputs = in_ranks rows wi; outputs = out_ranks rows wo }
ranked (suc k) rows wi wo = let zeros = tab ports (λ i. 0) in record { refusal = suc k; rows = zeros; inputs = zeros; outputs = zeros }

unfoldable pub rank_form : (M N : ℕ) (rows wi wo : List ℕ) → RankForm
rank_form M N rows wi wo = ranked (weight_refusal M N rows wi wo) rows wi wo
