-- DEMAND 3: only who waits and how the ports rank decides. Each clause is a theorem about `best`, and one about the answers of the matching functions:
--   same requests and same ranks give the same pairs      `same_ranks_same_pairs`, `equal_forms_equal_partners`, `tables_alike`
--   no match of those requests has more pairs              `most_pairs`
--   replacing weights by ranks changes no pair             `ranks_for_weights`, `form_for_weights`
--   ranking the ranks gives them again                     `ranks_of_ranks`, `form_of_form`
-- Assumes nothing.
use Rattle.std.specs.Prelude.{◌≡◌, refl, Bool, true, List, ℕ, zero, suc, ◌+◌, ◌≤◌, ◌<◌, ltb}
use Rattle.std.proofs.Common.{sym, ap, ◌∙◌, le_antisymm, arith, ltb-false, le-ltb}
use Rattle.masks.specs.Tests.{some_of}
use Rattle.card.specs.Paper.{ports}
use Rattle.matches.specs.Paper.{at, tab, asks, partner, IsMatch, size_of, weight_of, First, Best, best, table_in, table_out, table_rows}
use Rattle.matches.specs.Paper.{in_asks, out_asks, rank, in_ranks, out_ranks, table_refusal, weight_refusal, answer, table_match, weight_match, RankForm, ranked, rank_form}
use Rattle.matches.proofs.Sides.{swap, Greatest}
use Rattle.matches.proofs.Heaviest.{Worthy}
use Rattle.matches.proofs.Decide.{Follows, rank_only, greatest_all}
use Rattle.matches.proofs.Lists.{get_or_tab, list_of, list_match, list_total}
use Rattle.matches.proofs.Computed.{best_is_best, only}
use Rattle.matches.proofs.Accepted.{table_ok, Weighed, weights_ok, ok_weights, table_problem}
use Rattle.matches.proofs.Ranks.{ranks_alike, in_ranks_again, out_ranks_again, rank_form_ok, rank_form_again}

-- ---- lists and functions: the heaviest list is a heaviest match

module _ (rows wi wo p : List ℕ) where
  pub list_greatest : ((q : List ℕ) → IsMatch rows q → weight_of wi wo q ≤ weight_of wi wo p) → Greatest (asks rows) ports ports (at wi) (at wo) (partner p)
  unfolding weight_of
  list_greatest h q m = let e = list_total (λ i j. at wi i + at wo j) q in omega (arith, h (list_of q) (list_match rows q m))

  pub greatest_list : Greatest (asks rows) ports ports (at wi) (at wo) (partner p) → (q : List ℕ) → IsMatch rows q → weight_of wi wo q ≤ weight_of wi wo p
  unfolding weight_of
  greatest_list g q m = g (partner q) m.match

-- ---- weights of requesting ports

in_worthy : (rows w : List ℕ) → Weighed (in_asks rows) w → Worthy (asks rows) ports ports (at w)
unfolding in_asks
in_worthy rows w s i j li lj e = s.low i li (some_of ports (λ k. asks rows i k) j lj e)

out_worthy : (rows w : List ℕ) → Weighed (out_asks rows) w → Worthy (swap (asks rows)) ports ports (at w)
unfolding out_asks
out_worthy rows w s j i lj li e = s.low j lj (some_of ports (λ k. asks rows k j) i li e)

-- the ports that ask are in the same order by w and by v
abbrev pub Alike : (ℕ → Bool) → (w v : List ℕ) → Type 0
Alike asking w v = (i k : ℕ) → i < ports → k < ports → asking i ≡ true → asking k ≡ true → ltb (at w i) (at w k) ≡ ltb (at v i) (at v k)

alike_back : {asking : ℕ → Bool} (w v : List ℕ) → Alike asking w v → Alike asking v w
alike_back w v a i k li lk x y = sym (a i k li lk x y)

alike_le : {asking : ℕ → Bool} (w v : List ℕ) → Alike asking w v → (i k : ℕ) → i < ports → k < ports → asking i ≡ true → asking k ≡ true → at w i ≤ at w k → at v i ≤ at v k
alike_le w v a i k li lk x y h = ltb-false (at v k) (at v i) (sym (a k i lk li y x) ∙ le-ltb (at w k) (at w i) h)

in_follows : (rows w v : List ℕ) → Alike (in_asks rows) w v → Follows (asks rows) ports ports (at w) (at v)
unfolding in_asks
in_follows rows w v a u x lu lx (j, lj, e) (k, lk, f) = alike_le w v a u x lu lx (some_of ports (λ j. asks rows u j) j lj e) (some_of ports (λ j. asks rows x j) k lk f)

out_follows : (rows w v : List ℕ) → Alike (out_asks rows) w v → Follows (swap (asks rows)) ports ports (at w) (at v)
unfolding out_asks
out_follows rows w v a u x lu lx (j, lj, e) (k, lk, f) = alike_le w v a u x lu lx (some_of ports (λ i. asks rows i u) j lj e) (some_of ports (λ i. asks rows i x) k lk f)

-- ---- weights as they are accepted: from 1 on, where a port has a request
pub record Accepted (rows wi wo : List ℕ) : Type 0 where
  pub inputs : Weighed (in_asks rows) wi
  pub outputs : Weighed (out_asks rows) wo

pub accepted : (M N : ℕ) (rows wi wo : List ℕ) → weight_refusal M N rows wi wo ≡ 0 → Accepted rows wi wo
accepted M N rows wi wo e = let s = weights_ok M N rows wi wo e in record { inputs = s.inputs; outputs = s.outputs }

-- the heaviest matches are the same
heaviest_alike : (rows wi wo vi vo : List ℕ) → Accepted rows wi wo → Alike (in_asks rows) wi vi → Alike (out_asks rows) wo vo
    → (p : List ℕ) → IsMatch rows p → Greatest (asks rows) ports ports (at wi) (at wo) (partner p) → Greatest (asks rows) ports ports (at vi) (at vo) (partner p)
heaviest_alike rows wi wo vi vo s a b p m g =
    rank_only (at vi) (at vo) m.match (in_worthy rows wi s.inputs) (out_worthy rows wo s.outputs) (in_follows rows wi vi a) (out_follows rows wo vo b) g

-- and so is the first of them
pub order_decides : (rows wi wo vi vo : List ℕ) → Accepted rows wi wo → Accepted rows vi vo → Alike (in_asks rows) wi vi → Alike (out_asks rows) wo vo → best rows wi wo ≡ best rows vi vo
order_decides rows wi wo vi vo s t a b = only rows vi vo p (record { match = h.match; heaviest = greatest_list rows vi vo p top; first = first })
  where
    p : List ℕ
    p = best rows wi wo

    h : Best rows wi wo p
    h = best_is_best rows wi wo

    top : Greatest (asks rows) ports ports (at vi) (at vo) (partner p)
    top = heaviest_alike rows wi wo vi vo s a b p h.match (list_greatest rows wi wo p h.heaviest)

    first : (q : List ℕ) → IsMatch rows q → weight_of vi vo q ≡ weight_of vi vo p → First p q
    first q m e =
        let g = list_greatest rows vi vo q (λ r n. omega (arith, greatest_list rows vi vo p top r n)) in
        let g' = heaviest_alike rows vi vo wi wo t (alike_back wi vi a) (alike_back wo vo b) q m g in
        h.first q m (le_antisymm (h.heaviest q m) (greatest_list rows wi wo q g' p h.match))

-- ---- SAME REQUESTS AND SAME RANKS GIVE THE SAME PAIRS

rank_at : (asking : ℕ → Bool) (w v : List ℕ) → tab ports (rank asking (at w)) ≡ tab ports (rank asking (at v)) → Alike asking w v
rank_at asking w v e = ranks_alike asking (at w) (at v) (λ i l. sym (get_or_tab ports (rank asking (at w)) i 0 l) ∙ ap (λ (x : List ℕ). at x i) e ∙ get_or_tab ports (rank asking (at v)) i 0 l)

pub same_ranks_same_pairs : (rows wi wo vi vo : List ℕ) → Accepted rows wi wo → Accepted rows vi vo
    → in_ranks rows wi ≡ in_ranks rows vi → out_ranks rows wo ≡ out_ranks rows vo → best rows wi wo ≡ best rows vi vo
unfolding in_ranks out_ranks
same_ranks_same_pairs rows wi wo vi vo s t a b = order_decides rows wi wo vi vo s t (rank_at (in_asks rows) wi vi a) (rank_at (out_asks rows) wo vo b)

-- the same, of two lists of rows that are equal
same_forms : (rows rows' wi wo vi vo : List ℕ) → rows ≡ rows' → Accepted rows wi wo → Accepted rows' vi vo
    → in_ranks rows wi ≡ in_ranks rows' vi → out_ranks rows wo ≡ out_ranks rows' vo → best rows wi wo ≡ best rows' vi vo
same_forms rows rows' wi wo vi vo q s t a b =
    let q' = sym q in
    same_ranks_same_pairs rows wi wo vi vo s (rw q' at t) (a ∙ ap (λ (x : List ℕ). in_ranks x vi) q') (b ∙ ap (λ (x : List ℕ). out_ranks x vo) q')
    ∙ ap (λ (x : List ℕ). best x vi vo) q

-- ---- NO MATCH OF THOSE REQUESTS HAS MORE PAIRS

pub most_pairs : (rows wi wo : List ℕ) → Accepted rows wi wo → (q : List ℕ) → IsMatch rows q → size_of q ≤ size_of (best rows wi wo)
unfolding size_of
most_pairs rows wi wo s q m =
    let h = best_is_best rows wi wo in
    (greatest_all h.match.match (in_worthy rows wi s.inputs) (out_worthy rows wo s.outputs) (list_greatest rows wi wo (best rows wi wo) h.heaviest)).most (partner q) m.match

-- ---- REPLACING WEIGHTS BY RANKS CHANGES NO PAIR

pub ranks_for_weights : (M N : ℕ) (rows wi wo : List ℕ) → weight_refusal M N rows wi wo ≡ 0 → best rows (in_ranks rows wi) (out_ranks rows wo) ≡ best rows wi wo
ranks_for_weights M N rows wi wo e =
    let s = weights_ok M N rows wi wo e in
    let t = rank_form_ok M N rows wi wo s in
    same_ranks_same_pairs rows (in_ranks rows wi) (out_ranks rows wo) wi wo
    (record { inputs = t.inputs; outputs = t.outputs }) (record { inputs = s.inputs; outputs = s.outputs }) (in_ranks_again rows wi) (out_ranks_again rows wo)

-- ---- RANKING THE RANKS GIVES THEM AGAIN

pub ranks_of_ranks : (rows wi wo : List ℕ) → (in_ranks rows (in_ranks rows wi) ≡ in_ranks rows wi) × (out_ranks rows (out_ranks rows wo) ≡ out_ranks rows wo)
ranks_of_ranks rows wi wo = (in_ranks_again rows wi, out_ranks_again rows wo)

-- ---- THE SAME OF THE ANSWERS, for whatever is handed over

-- "Equal rank forms mean equal partners; the weight number may differ"
pub equal_forms_equal_partners : (M N M' N' : ℕ) (rows wi wo rows' vi vo : List ℕ)
    → rank_form M N rows wi wo ≡ rank_form M' N' rows' vi vo → (weight_match M N rows wi wo).partners ≡ (weight_match M' N' rows' vi vo).partners
unfolding rank_form ranked weight_match answer
equal_forms_equal_partners M N M' N' rows wi wo rows' vi vo e = go (weight_refusal M N rows wi wo) refl (weight_refusal M' N' rows' vi vo) refl e
  where
    go : (r : ℕ) → weight_refusal M N rows wi wo ≡ r → (r' : ℕ) → weight_refusal M' N' rows' vi vo ≡ r' → ranked r rows wi wo ≡ ranked r' rows' vi vo
        → (answer r rows wi wo).partners ≡ (answer r' rows' vi vo).partners
    go zero z zero z' q = same_forms rows rows' wi wo vi vo (ap (λ (f : RankForm). f.rows) q) (accepted M N rows wi wo z) (accepted M' N' rows' vi vo z') (ap (λ (f : RankForm). f.inputs) q) (ap (λ (f : RankForm). f.outputs) q)
    go zero z (suc k) z' q = absurd (omega (arith, ap (λ (f : RankForm). f.refusal) q))
    go (suc k) z zero z' q = absurd (omega (arith, ap (λ (f : RankForm). f.refusal) q))
    go (suc k) z (suc l) z' q = refl

pub form_for_weights : (M N : ℕ) (rows wi wo : List ℕ) → weight_refusal M N rows wi wo ≡ 0
    → (weight_match M N (rank_form M N rows wi wo).rows (rank_form M N rows wi wo).inputs (rank_form M N rows wi wo).outputs).partners ≡ (weight_match M N rows wi wo).partners
unfolding rank_form ranked weight_match answer
form_for_weights M N rows wi wo e =
    let f : weight_refusal M N rows (in_ranks rows wi) (out_ranks rows wo) ≡ 0 =
    ok_weights M N rows (in_ranks rows wi) (out_ranks rows wo) (rank_form_ok M N rows wi wo (weights_ok M N rows wi wo e)) in
    rw (e, f) (ranks_for_weights M N rows wi wo e)

pub form_of_form : (M N : ℕ) (rows wi wo : List ℕ) → weight_refusal M N rows wi wo ≡ 0
    → rank_form M N (rank_form M N rows wi wo).rows (rank_form M N rows wi wo).inputs (rank_form M N rows wi wo).outputs ≡ rank_form M N rows wi wo
unfolding rank_form ranked
form_of_form M N rows wi wo e = rw e (rw e at (rank_form_again M N rows wi wo e))

-- two accepted tables with the same requests and the same ranks of their totals
pub tables_alike : (M N M' N' : ℕ) (counts counts' : List ℕ) (hold hold' : ℕ) → ((k : ℕ) → at counts k ≤ 65535) → ((k : ℕ) → at counts' k ≤ 65535)
    → table_refusal M N counts hold ≡ 0 → table_refusal M' N' counts' hold' ≡ 0
    → table_rows M N counts hold ≡ table_rows M' N' counts' hold'
    → in_ranks (table_rows M N counts hold) (table_in M N counts) ≡ in_ranks (table_rows M' N' counts' hold') (table_in M' N' counts')
    → out_ranks (table_rows M N counts hold) (table_out M N counts) ≡ out_ranks (table_rows M' N' counts' hold') (table_out M' N' counts')
    → (table_match M N counts hold).partners ≡ (table_match M' N' counts' hold').partners
unfolding table_match answer
tables_alike M N M' N' counts counts' hold hold' b b' e e' q x y =
    let s = table_problem M N counts hold (table_ok M N counts hold e) b in
    let t = table_problem M' N' counts' hold' (table_ok M' N' counts' hold' e') b' in
    rw (e, e') (go (table_rows M N counts hold) (table_rows M' N' counts' hold') q (record { inputs = s.inputs; outputs = s.outputs }) (record { inputs = t.inputs; outputs = t.outputs }) x y)
  where
    go : (r r' : List ℕ) → r ≡ r' → Accepted r (table_in M N counts) (table_out M N counts) → Accepted r' (table_in M' N' counts') (table_out M' N' counts')
        → in_ranks r (table_in M N counts) ≡ in_ranks r' (table_in M' N' counts') → out_ranks r (table_out M N counts) ≡ out_ranks r' (table_out M' N' counts')
        → best r (table_in M N counts) (table_out M N counts) ≡ best r' (table_in M' N' counts') (table_out M' N' counts')
    go r r' q s t = same_forms r r' (table_in M N counts) (table_out M N counts) (table_in M' N' counts') (table_out M' N' counts') q s t
