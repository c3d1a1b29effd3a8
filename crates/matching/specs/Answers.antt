-- The answers of the three matching functions as document 01's, and that an accepted one fits its field. Assumes nothing.
use Rattle.std.specs.Prelude.{◌≡◌, refl, true, Result, Ok, Err, List, [], ◌∷◌, ℕ, zero, suc, ◌+◌, ◌≤◌, ◌<◌, length, get_or, replicate, ltb}
use Rattle.std.proofs.Common.{ap, ◌∙◌, arith, ltb-true}
use Rattle.masks.specs.Paper.{has, keep, sum}
use Rattle.masks.specs.Tests.{keep_bound, some_of}
use Rattle.masks.specs.Sum.{sum_le, sum_cong}
use Rattle.masks.proofs.Chains.{count_by_places}
use Rattle.std.specs.List.{count_by}
use Rattle.card.specs.Paper.{ports, none, out, refusal_number}
use Rattle.card.specs.Limits.{refused}
use Rattle.card.specs.declared.Out.{Out}
use Rattle.card.specs.declared.Refusal.{Refusal}
use Rattle.matches.specs.Paper.{at, tab, asks, partner, size_of, weight_of, best, in_asks, out_asks, max_weight, rank, in_ranks, out_ranks, weight_refusal, answer, ranked}
use Rattle.matches.specs.Paper as paper
use Rattle.matches.proofs.Computed.{best_is_best}
use Rattle.matches.proofs.Accepted.{weights_ok}
use Rattle.search.specs.First.{numbers}
use Rattle.matching.specs.declared.Match.{Match}
use Rattle.matching.specs.declared.RankForm.{RankForm}
use Rattle.matching.specs.Queues.{Light}
use Rattle.matching.specs.Ranks.{rank_cong}

-- a match beside a refusal's number, with the partners as numbers
abbrev pub match_beside : ℕ → Match → paper.Answer
match_beside number r = record { refusal = number; partners = numbers r.partners; pairs = r.size; weighs = r.weight }

abbrev pub match_of : Match → paper.Answer
match_of r = match_beside 0 r

-- "A refused match or rank form has partners none and all else 0"
abbrev pub refused_answer : ℕ → paper.Answer
refused_answer number = record { refusal = number; partners = tab ports (λ i. none); pairs = 0; weighs = 0 }

abbrev pub no_match : paper.Answer
no_match = refused_answer 0

-- an answer, with the refusal's number
abbrev pub answer_of : Result Match Refusal → paper.Answer
answer_of (Ok r) = match_of r
answer_of (Err v) = refused_answer (refusal_number v)

abbrev pub refused_form : ℕ → paper.RankForm
refused_form number = record { refusal = number; rows = tab ports (λ i. 0); inputs = tab ports (λ i. 0); outputs = tab ports (λ i. 0) }

-- a rank form beside a refusal's number
abbrev pub form_beside : ℕ → RankForm → paper.RankForm
form_beside number r = record { refusal = number; rows = r.rows; inputs = r.inputs; outputs = r.outputs }

abbrev pub no_form : paper.RankForm
no_form = refused_form 0

abbrev pub form_of : Result RankForm Refusal → paper.RankForm
form_of (Ok r) = form_beside 0 r
form_of (Err v) = refused_form (refusal_number v)

-- ---- refused

pub no_numbers : (n j : ℕ) → numbers (replicate n (out j)) ≡ tab n (λ i. j)
unfolding tab
no_numbers zero j = refl
no_numbers (suc n) j = ap (λ (l : List ℕ). j ∷ l) (no_numbers n j)

-- whatever the problem
pub answer_refused : (v : Refusal) (k : ℕ) (rows wi wo : List ℕ) → refusal_number v ≡ k → answer_of (Err v) ≡ answer k rows wi wo
unfolding answer
answer_refused v zero rows wi wo e = absurd (refused v e)
answer_refused v (suc k) rows wi wo e = ap refused_answer e

pub form_refused : (v : Refusal) (k : ℕ) (rows wi wo : List ℕ) → refusal_number v ≡ k → form_of (Err v) ≡ ranked k rows wi wo
unfolding ranked
form_refused v zero rows wi wo e = absurd (refused v e)
form_refused v (suc k) rows wi wo e = ap refused_form e

-- ---- accepted

-- the ports that ask weigh within the limit
pub record Bounded (rows wi wo : List ℕ) : Type 0 where
  pub inputs : (i : ℕ) → i < 32 → in_asks rows i ≡ true → at wi i ≤ max_weight
  pub outputs : (j : ℕ) → j < 32 → out_asks rows j ≡ true → at wo j ≤ max_weight

pub weights_bounded : (M N : ℕ) (rows wi wo : List ℕ) → weight_refusal M N rows wi wo ≡ 0 → Bounded rows wi wo
weights_bounded M N rows wi wo e = let s = weights_ok M N rows wi wo e in record { inputs = s.inputs.high; outputs = s.outputs.high }

pub light_bounded : (rows wi wo : List ℕ) → Light wi → Light wo → Bounded rows wi wo
light_bounded rows wi wo a b = record { inputs = λ i l e. a i; outputs = λ j l e. b j }

pub record Matched (rows wi wo : List ℕ) (r : Match) : Type 0 where
  pub partners : numbers r.partners ≡ best rows wi wo
  pub pairs : r.size ≡ size_of (best rows wi wo)
  pub weighs : r.weight ≡ weight_of wi wo (best rows wi wo)

-- 32 pairs of at most twice the limit
pub weight_fits_lem : (rows wi wo : List ℕ) → Bounded rows wi wo → weight_of wi wo (best rows wi wo) < 4294967296
unfolding weight_of in_asks out_asks
weight_fits_lem rows wi wo b =
    let m = (best_is_best rows wi wo).match in
    let most = sum_le 32 4194240 (λ i. keep (ltb (partner (best rows wi wo) i) 32) (at wi i + at wo (partner (best rows wi wo) i)))
    (λ i l. keep_bound (ltb (partner (best rows wi wo) i) 32) _ 4194240 (λ t.
    let j = ltb-true (partner (best rows wi wo) i) 32 t in
    let e = m.match.asked i l j in
    omega (arith, b.inputs i l (some_of 32 (λ j. asks rows i j) (partner (best rows wi wo) i) j e), b.outputs (partner (best rows wi wo) i) j (some_of 32 (λ k. asks rows k (partner (best rows wi wo) i)) i l e)))) in
    omega (arith, most)

pub answer_accepted : (k : ℕ) (rows wi wo : List ℕ) (r : Match) → k ≡ 0 → Matched rows wi wo r → answer_of (Ok r) ≡ answer k rows wi wo
unfolding answer
answer_accepted k rows wi wo r e a = rw (e, a.partners, a.pairs, a.weighs)

-- ---- the number of pairs

number_at : (l : List Out) (k : ℕ) → k < length l → (get_or l k (out 0)).0 ≡ partner (numbers l) k
number_at [] k h = absurd (omega arith)
number_at (o ∷ l) zero h = refl
number_at (o ∷ l) (suc k) h = number_at l k (omega arith)

-- as a count along the list
pub pairs_counted : (l : List Out) → length l ≡ 32 → count_by (λ o. ltb o.0 32) l ≡ size_of (numbers l)
unfolding size_of
pairs_counted l e = count_by_places (λ (o : Out). ltb o.0 32) l (out 0) ∙ ap (λ (n : ℕ). sum n (λ k. keep (ltb (get_or l k (out 0)).0 32) 1)) e
    ∙ sum_cong 32 _ _ (λ k h. ap (λ (j : ℕ). keep (ltb j 32) 1) (number_at l k (omega arith)))

-- ---- ranks

pub form_accepted : (k : ℕ) (rows wi wo : List ℕ) (ins outs : ℕ) → k ≡ 0 → ((i : ℕ) → i < 32 → has ins i ≡ in_asks rows i) → ((j : ℕ) → j < 32 → has outs j ≡ out_asks rows j)
    → (r : RankForm) → r.rows ≡ rows → r.inputs ≡ tab 32 (rank (has ins) (at wi)) → r.outputs ≡ tab 32 (rank (has outs) (at wo)) → form_of (Ok r) ≡ ranked k rows wi wo
unfolding ranked in_ranks out_ranks
form_accepted k rows wi wo ins outs z a b r er ei eo = rw (z, er, ei, eo, rank_cong (has ins) (in_asks rows) (at wi) a, rank_cong (has outs) (out_asks rows) (at wo) b)
