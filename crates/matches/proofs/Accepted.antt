-- What an accepted problem satisfies, and that it is accepted exactly then; and an accepted table comes to an accepted problem of rows and weights.
-- Assumes nothing.
use Rattle.std.specs.Prelude.{◌≡◌, refl, ◌⊎◌, Bool, true, false, not, ◌&&◌, ◌||◌, List, ℕ, suc, ◌+◌, ◌*◌, ◌≤◌, ◌<◌, length, leb, ltb, eqb}
use Rattle.std.proofs.Common.{sym, ◌∙◌, inl, inr, arith, leb-true, ltb-true, eqb-true, le-leb, lt-ltb, eq-eqb}
use Rattle.std.proofs.Math.Path.{ap}
use Rattle.std.proofs.lemmas.Bool.{not-true}
use Rattle.masks.specs.Paper.{bit, keep, every}
use Rattle.masks.specs.Tests.{cases, lt_or_ge, clash, and_true, and_both, or_left, or_right, or_either, every_at, at_every, some_at}
use Rattle.masks.specs.Sum.{sum_le, sum_at}
use Rattle.masks.proofs.Laws.{bit_of_zero, has_on, no_bits}
use Rattle.card.specs.Paper.{ports, unless, ports_fit, names_below}
use Rattle.card.specs.Limits.{Ports, ports_are, are_ports}
use Rattle.card.proofs.Names.{names_at, at_names}
use Rattle.matches.specs.Paper.{at, asks, mask, count, R, C, table_in, table_out, wants, table_rows, in_asks, out_asks, max_weight, rows_fit, weight_fits, weights_fit, table_refusal, weight_refusal}
use Rattle.matches.proofs.Lists.{get_or_tab}
use Rattle.matches.proofs.Table.{bit_mask, mask_lt, wants_in, wants_out, wants_at, table_asks, totals_in, totals_out}
use Rattle.matches.specs.Accepted.{TableOk}

-- the first of three refusals that applies is 0: each test holds
unless_none : (a b c : Bool) (k l m : ℕ) → unless a (suc k) (unless b (suc l) (unless c (suc m) 0)) ≡ 0 → (a ≡ true) × (b ≡ true) × (c ≡ true)
unless_none false b c k l m e = absurd (omega arith)
unless_none true false c k l m e = absurd (omega arith)
unless_none true true false k l m e = absurd (omega arith)
unless_none true true true k l m e = (refl, refl, refl)

none_unless : {a b c : Bool} (k l m : ℕ) → a ≡ true → b ≡ true → c ≡ true → unless a k (unless b l (unless c m 0)) ≡ 0
none_unless k l m p q r = rw (p, q, r)

-- ---- a table and a hold

pub table_ok : (M N : ℕ) (counts : List ℕ) (hold : ℕ) → table_refusal M N counts hold ≡ 0 → TableOk M N counts hold
unfolding table_refusal
table_ok M N counts hold e =
    let h = unless_none (ports_fit M N) (eqb (length counts) (M * N)) (names_below N hold) 0 1 2 e in
    record { sizes = ports_are M N h.0; full = eqb-true _ _ h.1; held = h.2 }

pub ok_table : (M N : ℕ) (counts : List ℕ) (hold : ℕ) → TableOk M N counts hold → table_refusal M N counts hold ≡ 0
unfolding table_refusal
ok_table M N counts hold s = none_unless 1 2 3 (are_ports M N s.sizes) (eq-eqb _ _ s.full) s.held

-- ---- rows and weights

pub record Weighed (asking : ℕ → Bool) (w : List ℕ) : Type 0 where
  pub low : (i : ℕ) → i < ports → asking i ≡ true → 1 ≤ at w i
  pub high : (i : ℕ) → i < ports → asking i ≡ true → at w i ≤ max_weight

pub record WeightsOk (M N : ℕ) (rows wi wo : List ℕ) : Type 0 where
  pub sizes : Ports M N
  pub narrow : (i : ℕ) → i < ports → names_below N (at rows i) ≡ true
  pub short : (i : ℕ) → i < ports → M ≤ i → at rows i ≡ 0
  pub inputs : Weighed (in_asks rows) wi
  pub outputs : Weighed (out_asks rows) wo

weighed : (asking : ℕ → Bool) (w : List ℕ) → every ports (λ i. weight_fits (asking i) (at w i)) ≡ true → Weighed asking w
weighed asking w e = record { low = λ i l a. leb-true 1 (at w i) (go i l a).0; high = λ i l a. leb-true (at w i) max_weight (go i l a).1 }
  where
    go : (i : ℕ) → i < ports → asking i ≡ true → (leb 1 (at w i) ≡ true) × (leb (at w i) max_weight ≡ true)
    go i l a = one (or_either _ _ (every_at ports _ e i l))
      where
        one : (not (asking i) ≡ true) ⊎ ((leb 1 (at w i) && leb (at w i) max_weight) ≡ true) → (leb 1 (at w i) ≡ true) × (leb (at w i) max_weight ≡ true)
        one (inl n) = clash a (not-true _ n)
        one (inr h) = and_both _ _ h

are_weighed : (asking : ℕ → Bool) (w : List ℕ) → Weighed asking w → every ports (λ i. weight_fits (asking i) (at w i)) ≡ true
are_weighed asking w s = at_every ports _ (λ i l. go i l (cases (asking i)))
  where
    go : (i : ℕ) → i < ports → (asking i ≡ true) ⊎ (asking i ≡ false) → weight_fits (asking i) (at w i) ≡ true
    go i l (inl a) = or_right (not (asking i)) (and_true (le-leb 1 (at w i) (s.low i l a)) (le-leb (at w i) max_weight (s.high i l a)))
    go i l (inr a) = or_left _ (ap not a)

pub weights_ok : (M N : ℕ) (rows wi wo : List ℕ) → weight_refusal M N rows wi wo ≡ 0 → WeightsOk M N rows wi wo
unfolding weight_refusal weights_fit rows_fit
weights_ok M N rows wi wo e =
    let h = unless_none (ports_fit M N) (rows_fit M N rows) (weights_fit rows wi wo) 0 4 5 e in
    let b = and_both _ _ h.2 in
    record {
      sizes = ports_are M N h.0;
      narrow = λ i l. (and_both (names_below N (at rows i)) _ (every_at ports _ h.1 i l)).0;
      short = λ i l g. outside i g (or_either _ _ (and_both (names_below N (at rows i)) _ (every_at ports _ h.1 i l)).1);
      inputs = weighed (in_asks rows) wi b.0;
      outputs = weighed (out_asks rows) wo b.1;
    }
  where
    outside : (i : ℕ) → M ≤ i → (ltb i M ≡ true) ⊎ (eqb (at rows i) 0 ≡ true) → at rows i ≡ 0
    outside i g (inl q) = absurd (omega (arith, ltb-true i M q))
    outside i g (inr q) = eqb-true _ _ q

pub ok_weights : (M N : ℕ) (rows wi wo : List ℕ) → WeightsOk M N rows wi wo → weight_refusal M N rows wi wo ≡ 0
unfolding weight_refusal weights_fit rows_fit
ok_weights M N rows wi wo s =
    none_unless 1 5 6 (are_ports M N s.sizes) (at_every ports _ (λ i l. and_true (s.narrow i l) (row i l (lt_or_ge i M))))
    (and_true (are_weighed (in_asks rows) wi s.inputs) (are_weighed (out_asks rows) wo s.outputs))
  where
    row : (i : ℕ) → i < ports → (i < M) ⊎ (M ≤ i) → (ltb i M || eqb (at rows i) 0) ≡ true
    row i l (inl h) = or_left _ (lt-ltb i M h)
    row i l (inr h) = or_right (ltb i M) (eq-eqb _ _ (s.short i l h))

-- an accepted problem's requests lie within the card
pub asks_within : (M N : ℕ) (rows wi wo : List ℕ) → WeightsOk M N rows wi wo → (i j : ℕ) → i < ports → j < ports → asks rows i j ≡ true → (i < M) × (j < N)
unfolding asks
asks_within M N rows wi wo ok i j li lj e = (go_in (lt_or_ge i M), go_out (lt_or_ge j N))
  where
    go_in : (i < M) ⊎ (M ≤ i) → i < M
    go_in (inl h) = h
    go_in (inr h) = absurd (omega (arith, has_on _ _ e, ap (λ (x : ℕ). bit x j) (ok.short i li h), bit_of_zero j))

    go_out : (j < N) ⊎ (N ≤ j) → j < N
    go_out (inl h) = h
    go_out (inr h) = absurd (omega (arith, has_on _ _ e, names_at N (at rows i) (ok.narrow i li) j h lj))

-- ---- an accepted table comes to an accepted problem: "each 0 to 65,535"

module _ (M N : ℕ) (counts : List ℕ) (hold : ℕ) (ok : TableOk M N counts hold) (bounded : (k : ℕ) → at counts k ≤ 65535) where
  asked : (i j : ℕ) → i < ports → j < ports → asks (table_rows M N counts hold) i j ≡ true → (i < M) × (j < N) × (1 ≤ count M N counts i j)
  asked i j li lj e = wants_at M N counts hold i j (sym (table_asks M N counts hold i j li lj) ∙ e)

  in_weighed : Weighed (in_asks (table_rows M N counts hold)) (table_in M N counts)
  unfolding in_asks R count
  in_weighed = record { low = λ i l e. (go i l (some_at ports _ e)).0; high = λ i l e. (go i l (some_at ports _ e)).1 }
    where
      go : (i : ℕ) → i < ports → (j : ℕ) × (j < ports) × (asks (table_rows M N counts hold) i j ≡ true) → (1 ≤ at (table_in M N counts) i) × (at (table_in M N counts) i ≤ max_weight)
      go i l (j, lj, e) =
          let a = asked i j l lj e in
          let eq = totals_in M N counts i l a.0 in
          let most = sum_le N 65535 (count M N counts i) (λ k u. bounded (i * N + k)) in
          (omega (arith, eq, sum_at N (count M N counts i) j a.1, a.2), omega (arith, eq, most, ok.sizes.outs.high))

  out_weighed : Weighed (out_asks (table_rows M N counts hold)) (table_out M N counts)
  unfolding out_asks C count
  out_weighed = record { low = λ j l e. (go j l (some_at ports _ e)).0; high = λ j l e. (go j l (some_at ports _ e)).1 }
    where
      go : (j : ℕ) → j < ports → (i : ℕ) × (i < ports) × (asks (table_rows M N counts hold) i j ≡ true) → (1 ≤ at (table_out M N counts) j) × (at (table_out M N counts) j ≤ max_weight)
      go j l (i, li, e) =
          let a = asked i j li l e in
          let eq = totals_out M N counts j l a.1 in
          let most = sum_le M 65535 (λ i. count M N counts i j) (λ k u. bounded (k * N + j)) in
          (omega (arith, eq, sum_at M (λ i. count M N counts i j) i a.0, a.2), omega (arith, eq, most, ok.sizes.ins.high))

  pub table_problem : WeightsOk M N (table_rows M N counts hold) (table_in M N counts) (table_out M N counts)
  unfolding table_rows
  table_problem = record {
    sizes = ok.sizes;
    narrow = λ i l. at_names N _ (λ j h lj. row i j l ∙ ap (λ (t : Bool). keep (ltb j ports && t) 1) (wants_out M N counts hold i j h) ∙ nothing (ltb j ports));
    short = λ i l h. no_bits ports _ (rw (get_or_tab ports (λ i. mask ports (wants M N counts hold i)) i 0 l) (mask_lt ports (wants M N counts hold i)))
        (λ j lj. row i j l ∙ ap (λ (t : Bool). keep (ltb j ports && t) 1) (wants_in M N counts hold i j h) ∙ nothing (ltb j ports));
    inputs = in_weighed;
    outputs = out_weighed;
  }
    where
      row : (i j : ℕ) → i < ports → bit (at (table_rows M N counts hold) i) j ≡ keep (ltb j ports && wants M N counts hold i j) 1
      row i j l = ap (λ (x : ℕ). bit x j) (get_or_tab ports (λ i. mask ports (wants M N counts hold i)) i 0 l) ∙ bit_mask ports (wants M N counts hold i) j

      nothing : (t : Bool) → keep (t && false) 1 ≡ 0
      nothing true = refl
      nothing false = refl
