-- The starred lines of document 01's bench table, proved of the definitions: one table, one computed test, one statement. Assumes nothing.
use Rattle.std.specs.Prelude.{◌≡◌, refl, Bool, true, false, ◌&&◌, List, [], ◌∷◌, ℕ, get_or, eqb}
use Rattle.masks.specs.Paper.{bit, every, some, sum}
use Rattle.card.specs.Paper.{ports, none, ports_fit, names_below}
use Rattle.matches.specs.Paper.{tab, member, asks, size_of, weight_of, gain, add, heavier, pick, best_from, best}
use Rattle.matches.specs.Paper.{mask, count, R, C, table_in, table_out, wants, table_rows}
use Rattle.matches.specs.Paper.{in_asks, out_asks, those, distinct, smaller, rank, in_ranks, out_ranks}
use Rattle.matches.specs.Paper.{rows_fit, weights_fit, table_refusal, weight_refusal, Answer, answer, table_match, weight_match, RankForm, ranked, rank_form}

pub data Line : Type 0 where
  -- M, N, counts, hold: partners of the M inputs, and the weight
  table : (M N : ℕ) (counts : List ℕ) (hold : ℕ) (partners : List ℕ) (weighs : ℕ) → Line
  -- M, N, rows, weights: partners, and the weight
  weights : (M N : ℕ) (rows wi wo partners : List ℕ) (weighs : ℕ) → Line
  -- M, N, counts, hold: the refusal
  refuses : (M N : ℕ) (counts : List ℕ) (hold refusal : ℕ) → Line
  -- M, N, rows, weights: the refusal, of the match and of the rank form
  refuses_weights : (M N : ℕ) (rows wi wo : List ℕ) (refusal : ℕ) → Line
  -- M, N, rows, weights: ranks
  ranks : (M N : ℕ) (rows wi wo ri ro : List ℕ) → Line

unfoldable pub lines : List Line
lines =
    table 1 1 (0 ∷ []) 0 (none ∷ []) 0
    ∷ table 1 1 (1 ∷ []) 0 (0 ∷ []) 2
    ∷ table 2 2 (3 ∷ 1 ∷ 2 ∷ 0 ∷ []) 0 (1 ∷ 0 ∷ []) 12
    ∷ table 2 2 (1 ∷ 1 ∷ 1 ∷ 1 ∷ []) 0 (0 ∷ 1 ∷ []) 8
    ∷ table 2 1 (1 ∷ 1 ∷ []) 0 (0 ∷ none ∷ []) 3
    ∷ table 2 1 (1 ∷ 2 ∷ []) 0 (none ∷ 0 ∷ []) 5
    ∷ table 2 2 (5 ∷ 1 ∷ 1 ∷ 0 ∷ []) 0 (1 ∷ 0 ∷ []) 14
    ∷ table 3 3 (4 ∷ 0 ∷ 0 ∷ 3 ∷ 2 ∷ 0 ∷ 0 ∷ 1 ∷ 0 ∷ []) 0 (0 ∷ 1 ∷ none ∷ []) 19
    ∷ table 2 2 (1 ∷ 1 ∷ 1 ∷ 1 ∷ []) 1 (1 ∷ none ∷ []) 4
    ∷ table 2 2 (5 ∷ 1 ∷ 0 ∷ 2 ∷ []) 1 (1 ∷ none ∷ []) 9
    ∷ weights 2 2 (3 ∷ 1 ∷ []) (9 ∷ 2 ∷ []) (5 ∷ 1 ∷ []) (1 ∷ 0 ∷ []) 17
    ∷ ranks 2 2 (3 ∷ 1 ∷ []) (9 ∷ 2 ∷ []) (5 ∷ 1 ∷ []) (2 ∷ 1 ∷ []) (2 ∷ 1 ∷ [])
    ∷ weights 2 2 (3 ∷ 1 ∷ []) (2 ∷ 1 ∷ []) (2 ∷ 1 ∷ []) (1 ∷ 0 ∷ []) 6
    -- ours: equal weights have one rank
    ∷ ranks 3 2 (1 ∷ 2 ∷ 3 ∷ []) (4 ∷ 4 ∷ 9 ∷ []) (7 ∷ 7 ∷ []) (1 ∷ 1 ∷ 2 ∷ []) (1 ∷ 1 ∷ [])
    -- ours: the limits from both sides, and several faults at once, of which the first in order is given
    ∷ table 1 2 (1 ∷ 1 ∷ []) 2 (0 ∷ []) 3
    ∷ refuses 33 1 [] 2 1
    ∷ refuses 0 1 (1 ∷ []) 0 1
    ∷ refuses 1 33 [] 2 1
    ∷ refuses 1 0 [] 0 1
    ∷ refuses 1 2 (1 ∷ []) 4 2
    ∷ refuses 1 2 (1 ∷ 1 ∷ 1 ∷ []) 4 2
    ∷ refuses 1 2 (1 ∷ 1 ∷ []) 4 3
    ∷ weights 1 1 (1 ∷ []) (2097120 ∷ []) (2097120 ∷ []) (0 ∷ []) 4194240
    ∷ weights 32 32 (1 ∷ []) (1 ∷ 4294967295 ∷ []) (1 ∷ 4294967295 ∷ []) (0 ∷ []) 2
    ∷ refuses_weights 33 1 (2 ∷ []) (0 ∷ []) (0 ∷ []) 1
    ∷ refuses_weights 1 33 (2 ∷ []) (0 ∷ []) (0 ∷ []) 1
    ∷ refuses_weights 1 1 (2 ∷ []) (0 ∷ []) (0 ∷ []) 5
    ∷ refuses_weights 1 1 (0 ∷ 1 ∷ []) (0 ∷ 0 ∷ []) (0 ∷ []) 5
    ∷ refuses_weights 1 1 (1 ∷ []) (0 ∷ []) (1 ∷ []) 6
    ∷ refuses_weights 1 1 (1 ∷ []) (1 ∷ []) (0 ∷ []) 6
    ∷ refuses_weights 1 1 (1 ∷ []) (2097121 ∷ []) (1 ∷ []) 6
    ∷ refuses_weights 1 1 (1 ∷ []) (1 ∷ []) (2097121 ∷ []) 6
    ∷ []

same : List ℕ → List ℕ → Bool
same [] [] = true
same [] (y ∷ q) = false
same (x ∷ p) [] = false
same (x ∷ p) (y ∷ q) = eqb x y && same p q

-- the list, with d for what is missing of 32
up_to32 : ℕ → List ℕ → List ℕ
up_to32 d l = tab ports (λ i. get_or l i d)

-- accepted, with these partners and this weight
gives : Answer → List ℕ → ℕ → Bool
gives a partners weighs = eqb a.refusal 0 && (same a.partners (up_to32 none partners) && eqb a.weighs weighs)

-- refused, with partners none and all else 0
refused : Answer → ℕ → Bool
refused a r = eqb a.refusal r && (same a.partners (up_to32 none []) && (eqb a.pairs 0 && eqb a.weighs 0))

refused_ranks : RankForm → ℕ → Bool
refused_ranks f r = eqb f.refusal r && (same f.rows (up_to32 0 []) && (same f.inputs (up_to32 0 []) && same f.outputs (up_to32 0 [])))

-- accepted, with these ranks
gives_ranks : RankForm → List ℕ → List ℕ → Bool
gives_ranks f ri ro = eqb f.refusal 0 && (same f.inputs (up_to32 0 ri) && same f.outputs (up_to32 0 ro))

holds : Line → Bool
holds (table M N counts hold partners weighs) = gives (table_match M N counts hold) partners weighs
holds (weights M N rows wi wo partners weighs) = gives (weight_match M N rows wi wo) partners weighs
holds (refuses M N counts hold r) = refused (table_match M N counts hold) r
holds (refuses_weights M N rows wi wo r) = refused (weight_match M N rows wi wo) r && refused_ranks (rank_form M N rows wi wo) r
holds (ranks M N rows wi wo ri ro) = gives_ranks (rank_form M N rows wi wo) ri ro

pub all : List Line → Bool
all [] = true
all (l ∷ ls) = holds l && all ls

pub bench : all lines ≡ true
unfolding bit every some sum ports_fit names_below all holds gives gives_ranks refused refused_ranks up_to32 same lines tab member asks size_of weight_of gain add heavier pick best_from best mask count R C table_in table_out wants table_rows in_asks out_asks those distinct smaller rank in_ranks out_ranks rows_fit weights_fit table_refusal weight_refusal answer table_match weight_match ranked rank_form
bench = refl
