-- The inputs fixed one by one: what holds after each, and that each choice is the one of `best`. Assumes nothing.
use Rattle.std.specs.Prelude.{◌≡◌, refl, ◌⊎◌, ◌≢◌, Bool, ◌&&◌, ◌||◌, List, [], ◌∷◌, map, length, set, replicate, leb, ltb}
use Rattle.std.proofs.Math.Path.{sym, ap, ap₂}
use Rattle.std.proofs.Common.{subst, ◌∙◌, inl, inr, le_antisymm, get_or-set_other, le-leb, eq-eqb, ne_eqb}
use Rattle.std.proofs.Math.Bool.{true, false, not, and-false}
use Prim.Native.Nat.{ℕ, zero, suc, ◌+◌, ◌-◌, ◌≤◌, ◌<◌, min}
use native.Mathlib.Omega.{arith}
use Rattle.std.proofs.lemmas.List.{length-replicate, get_or-replicate}
use Rattle.std.proofs.Math.Dec.{eqb}
use Rattle.std.proofs.lemmas.Bool.{lt-leb}
use Rattle.masks.specs.Paper.{bit, has, keep, Without, Below, Lowest}
use Rattle.masks.specs.Tests.{lt_or_ge, eq_or_ne, clash, and_both, keep_lt}
use Rattle.masks.specs.Sum.{sum_cong}
use Rattle.masks.proofs.Laws.{bit_lt, bit_of_zero, has_on, on_has, off_has}
use Rattle.card.specs.Paper.{none, out}
use Rattle.card.specs.declared.Out.{Out}
use Rattle.matches.specs.Paper.{at, member, asks, Match, total, weight, partner, weight_of, gain, add, best_from, best}
use Rattle.matches.proofs.Sides.{Greatest}
use Rattle.matches.proofs.Computed.{best_is_best}
use Rattle.matches.proofs.Demand3.{list_greatest}
use Rattle.matches.proofs.Flip.{put, put_same, put_other, put_match, total_join, total_drop}
use Rattle.matches.proofs.Rest.{can_take, rest_e, rest_weight, option, choose_output, choose_none, taken_of, taken_set_output, taken_none, Fixed, fixed_begin, fixed_end, fixed_output, fixed_kept}
use Rattle.search.specs.declared.pairing.Pairing.{Pairing}
use Rattle.search.specs.declared.problem.Problem.{Problem}
use Rattle.search.specs.declared.choice.Rest.{Rest}
use Rattle.search.specs.declared.choice.Found.{Found}
use Rattle.search.specs.Pair.{Paired, Unlink}
use Rattle.search.specs.Stage.{wants}
use Rattle.search.specs.Problem.{WithoutPair, LeftOf}
use Rattle.search.specs.ProblemSteps.{Kept, kept_bits, left_exists, without_pair}
use Rattle.search.specs.Heaviest.{Heaviest, match_of_paired}

-- ---- partners as outputs and as numbers

abbrev pub numbers : List Out → List ℕ
numbers l = map (λ o. o.0) l

pub numbers_set : (l : List Out) (i j : ℕ) → numbers (set l i (out j)) ≡ set (numbers l) i j
numbers_set [] i j = refl
numbers_set (o ∷ l) zero j = refl
numbers_set (o ∷ l) (suc i) j = ap (λ (t : List ℕ). o.0 ∷ t) (numbers_set l i j)

pub numbers_length : (l : List Out) → length (numbers l) ≡ length l
numbers_length [] = refl
numbers_length (o ∷ l) = ap suc (numbers_length l)

-- nothing is lost
pub numbers_unique : (l k : List Out) → numbers l ≡ numbers k → l ≡ k
numbers_unique [] [] e = refl
numbers_unique [] (o ∷ k) e = let z : ◌≡◌ {A = ℕ} 0 1 = cc in absurd (omega arith)
numbers_unique (o ∷ l) [] e = let z : ◌≡◌ {A = ℕ} 0 1 = cc in absurd (omega arith)
numbers_unique (o ∷ l) (q ∷ k) e =
    let h : o.0 ≡ q.0 = cc in
    let t : numbers l ≡ numbers k = cc in
    ap₂ (λ (j : ℕ) (r : List Out). out j ∷ r) h (numbers_unique l k t)

-- ---- what is left

-- after the inputs below i: what is left of the whole problem, a heaviest match of it, and the partners fixed, which are those of `best`
pub record State (all : Problem) (rows ins outs : List ℕ) (s : Rest) (i : ℕ) : Type 0 where
  pub problem : Problem
  pub is_left : LeftOf all s.ins s.outs problem
  pub heavy : Heaviest problem.rows ins outs s.pairing
  pub weighs : s.weight ≡ weight 32 32 (at ins) (at outs) (at s.pairing.mine)
  pub left : (k b : ℕ) → k < 32 → b < 32 → asks problem.rows k b ≡ rest_e rows i (taken_of (numbers s.partners) i) k b
  pub fixed : Fixed rows ins outs (numbers s.partners) i
  pub unset : (k : ℕ) → i ≤ k → k < 32 → at (numbers s.partners) k ≡ none

-- input i goes to output j: what that leaves, with a heaviest match of it
pub record Gone (all : Problem) (ins outs : List ℕ) (s : Rest) (i j : ℕ) (t : Rest) : Type 0 where
  pub ins_less : Without s.ins i t.ins
  pub outs_less : Without s.outs j t.outs
  pub problem : Problem
  pub is_left : LeftOf all t.ins t.outs problem
  pub heavy : Heaviest problem.rows ins outs t.pairing
  pub weighs : t.weight ≡ weight 32 32 (at ins) (at outs) (at t.pairing.mine)
  pub small : t.weight < 274877906944
  pub partners : t.partners ≡ set s.partners i (out j)

-- input i keeps its output
pub record KeptPair (ins outs : List ℕ) (s : Rest) (i : ℕ) (t : Rest) : Type 0 where
  pub unlinked : Unlink s.pairing i t.pairing
  pub weighs : t.weight ≡ weight 32 32 (at ins) (at outs) (at t.pairing.mine)
  pub small : t.weight < 274877906944
  pub partners : t.partners ≡ set s.partners i (out (at s.pairing.mine i))

-- or has none
pub record KeptNone (s t : Rest) : Type 0 where
  pub pairing : t.pairing ≡ s.pairing
  pub weight : t.weight ≡ s.weight
  pub partners : t.partners ≡ s.partners

-- input i keeps what it has
pub record Keeping (ins outs : List ℕ) (s : Rest) (i : ℕ) (t : Rest) : Type 0 where
  pub ins_less : Without s.ins i t.ins
  pub outs_less : Without s.outs (at s.pairing.mine i) t.outs
  pub matched : at s.pairing.mine i < 32 → KeptPair ins outs s i t
  pub idle : 32 ≤ at s.pairing.mine i → KeptNone s t

-- the option b for input i weighs less than the whole
abbrev pub FailsAt : (rows ins outs : List ℕ) → Rest → ℕ → ℕ → Type 0
FailsAt rows ins outs s i b =
    can_take rows i (taken_of (numbers s.partners) i) b ≡ true → option rows ins outs (31 - i) i (taken_of (numbers s.partners) i) b ≡ s.weight → ⊥

-- what input i still requests below its present partner
abbrev pub requested : Problem → Rest → ℕ → ℕ → ℕ
requested all s i b = min (bit s.ins i) (min (bit (at all.rows i) b) (bit s.outs b))

pub record Candidates (all : Problem) (s : Rest) (i now left : ℕ) : Type 0 where
  pub within : (b : ℕ) → b < 32 → bit left b ≡ 1 → (requested all s i b ≡ 1) × (b < now)
  pub rest : (b : ℕ) → b < 32 → b < now → bit left b ≡ 0 → requested all s i b ≡ 0

pub candidates_are : (all : Problem) (s : Rest) (i now below row word left : ℕ) → word ≡ at all.rows i → Kept (has s.ins i) word s.outs row → Below now below
    → ((b : ℕ) → bit left b ≡ min (bit row b) (bit below b)) → Candidates all s i now left
candidates_are all s i now below row word left ew k be e = record {
  within = λ b lb o. (omega (arith, e b, kept b, bit_lt below b, bit_lt row b), lim b o (lt_or_ge b now));
  rest = λ b lb l z. omega (arith, e b, kept b, be.within b l lb, bit_lt row b);
}
  where
    kept : (b : ℕ) → bit row b ≡ requested all s i b
    kept b = kept_bits s.ins i word s.outs row k b ∙ ap (λ (x : ℕ). min (bit s.ins i) (min (bit x b) (bit s.outs b))) ew

    lim : (b : ℕ) → bit left b ≡ 1 → (b < now) ⊎ (now ≤ b) → b < now
    lim b o (inl l) = l
    lim b o (inr g) = absurd (omega (arith, be.above b g, e b))

-- the candidates that are left; the others fail
pub record Placing (all : Problem) (rows ins outs : List ℕ) (s : Rest) (i left : ℕ) : Type 0 where
  pub within : (b : ℕ) → b < 32 → bit left b ≡ 1 → (requested all s i b ≡ 1) × (b < at s.pairing.mine i)
  pub failed : (b : ℕ) → b < 32 → b < at s.pairing.mine i → bit left b ≡ 0 → FailsAt rows ins outs s i b

-- what the code needs of what is left
pub record Fit (all : Problem) (s : Rest) : Type 0 where
  pub problem : Problem
  pub is_left : LeftOf all s.ins s.outs problem
  pub paired : Paired (wants problem.rows) s.pairing

-- the partners of `best`, and its weight
pub record FirstOf (rows ins outs : List ℕ) (r : Found) : Type 0 where
  pub partners : numbers r.partners ≡ best rows ins outs
  pub weighs : r.weight ≡ weight_of ins outs (best rows ins outs)

-- i and j have nothing
pub record Parted (p : Pairing) (i j : ℕ) (r : Pairing) : Type 0 where
  pub keeps : (E F : ℕ → ℕ → ℕ) → Paired E p → ((x b : ℕ) → x < 32 → b < 32 → x ≢ i → b ≢ j → E x b ≡ 1 → F x b ≡ 1) → Paired F r

-- ---- requests that agree

module _ {E F : ℕ → ℕ → Bool} (e : (k b : ℕ) → k < 32 → b < 32 → E k b ≡ F k b) where
  match_over : (p : ℕ → ℕ) → Match E 32 32 p → Match F 32 32 p
  match_over p m = record { asked = λ i li l. sym (e i (p i) li l) ∙ m.asked i li l; apart = m.apart }

greatest_over : {E F : ℕ → ℕ → Bool} (e : (k b : ℕ) → k < 32 → b < 32 → E k b ≡ F k b) (w v p : ℕ → ℕ) → Greatest E 32 32 w v p → Greatest F 32 32 w v p
greatest_over e w v p g q m = g q (match_over (λ k b lk lb. sym (e k b lk lb)) q m)

total_same : (g : ℕ → ℕ → ℕ) (p q : ℕ → ℕ) → ((i : ℕ) → i < 32 → p i ≡ q i) → total 32 32 g p ≡ total 32 32 g q
total_same g p q h = sum_cong 32 (λ i. keep (ltb (p i) 32) (g i (p i))) (λ i. keep (ltb (q i) 32) (g i (q i))) (λ i l. ap (λ (j : ℕ). keep (ltb j 32) (g i j)) (h i l))

paired_over : (E F : ℕ → ℕ → ℕ) (p : Pairing) → ((x : ℕ) → x < 32 → at p.mine x < 32 → F x (at p.mine x) ≡ 1) → Paired E p → Paired F p
paired_over E F p a h = record { pairs = record { asked = a; back = h.pairs.back; forth = h.pairs.forth }; idle = h.idle; vacant = h.vacant }

-- a pairing in which i and j have nothing is one of whatever keeps the other requests
parted_over : (E F : ℕ → ℕ → ℕ) (p : Pairing) (i j : ℕ) → Paired E p → 32 ≤ at p.mine i → 32 ≤ at p.theirs j
    → ((x b : ℕ) → x < 32 → b < 32 → x ≢ i → b ≢ j → E x b ≡ 1 → F x b ≡ 1) → Paired F p
parted_over E F p i j h gi gj sub = paired_over E F p (λ x lx l.
    sub x (at p.mine x) lx l (λ e. omega (arith, ap (at p.mine) e)) (λ e. omega (arith, ap (at p.theirs) e, h.pairs.back x lx l)) (h.pairs.asked x lx l)) h

pub parted_one : (p q : Pairing) (i j k : ℕ) → i < 32 → j < 32 → k ≡ at q.theirs j → 32 ≤ k → Unlink p i q → Parted p i j q
parted_one p q i j k li lj ek g u = record {
  keeps = λ E F h sub. parted_over E F q i j (u.keeps E h) (omega (arith, u.changed.mine.here)) (omega arith) sub;
}

pub parted_both : (p q r : Pairing) (i j k : ℕ) → i < 32 → j < 32 → k ≡ at q.theirs j → k < 32 → Unlink p i q → Unlink q k r → Parted p i j r
parted_both p q r i j k li lj ek l u v = record { keeps = λ E F h sub. one E F (u.keeps E h) sub }
  where
    one : (E F : ℕ → ℕ → ℕ) → Paired E q → ((x b : ℕ) → x < 32 → b < 32 → x ≢ i → b ≢ j → E x b ≡ 1 → F x b ≡ 1) → Paired F r
    one E F h sub =
        let m : at q.mine k ≡ j = ap (at q.mine) ek ∙ h.pairs.forth j lj (omega arith) in
        parted_over E F r i j (v.keeps E h) (idle (eq_or_ne i k)) (omega (arith, v.changed.gave (omega arith), ap (at r.theirs) m)) sub
      where
        idle : (i ≡ k) ⊎ (i ≢ k) → 32 ≤ at r.mine i
        idle (inl e) = omega (arith, ap (at r.mine) e, v.changed.mine.here)
        idle (inr d) = omega (arith, v.changed.mine.other i d, u.changed.mine.here)

-- from i on and not i: after i
later : (k i : ℕ) → k ≢ i → leb i k ≡ leb (suc i) k
later k i d = go (lt_or_ge k i)
  where
    go : (k < i) ⊎ (i ≤ k) → leb i k ≡ leb (suc i) k
    go (inl l) = lt-leb i k l ∙ sym (lt-leb (suc i) k (omega arith))
    go (inr g) = le-leb i k g ∙ sym (le-leb (suc i) k (omega arith))

-- ---- one input

module _ (all : Problem) (rows ins outs : List ℕ) (s : Rest) (i : ℕ) (li : i < 32) (h : State all rows ins outs s i) where
  abbrev Taken : List ℕ
  Taken = taken_of (numbers s.partners) i

  fill : suc (31 - i) + i ≡ 32
  fill = omega arith

  fill_next : 31 - i + suc i ≡ 32
  fill_next = omega arith

  -- the weight at hand is the one of `best_from`
  whole : (best_from rows ins outs (suc (31 - i)) i Taken).weighs ≡ s.weight
  whole =
      sym (rest_weight rows ins outs (suc (31 - i)) i fill Taken (at s.pairing.mine)
      (match_over h.left (at s.pairing.mine) (match_of_paired h.problem.rows s.pairing h.heavy.paired))
      (greatest_over h.left (at ins) (at outs) (at s.pairing.mine) h.heavy.greatest))
      ∙ sym h.weighs

  -- who can take an output, in the rows at hand
  can_take_lem : (b : ℕ) → b < 32 → asks h.problem.rows i b ≡ can_take rows i Taken b
  can_take_lem b lb = h.left i b li lb ∙ ap (λ (t : Bool). t && can_take rows i Taken b) (le-leb i i (omega arith))

  -- ---- input i goes to output j

  module _ (j : ℕ) (lj : j < 32) (less : Problem) (wp : WithoutPair h.problem i j less) where
    less_left : (k b : ℕ) → k < 32 → b < 32 → asks less.rows k b ≡ rest_e rows (suc i) (j ∷ Taken) k b
    unfolding asks member
    less_left k b lk lb = go (eq_or_ne k i) (eq_or_ne b j)
      where
        go : (k ≡ i) ⊎ (k ≢ i) → (b ≡ j) ⊎ (b ≢ j) → asks less.rows k b ≡ rest_e rows (suc i) (j ∷ Taken) k b
        go (inl e) q = off_has _ b (ap (λ (x : ℕ). bit (at less.rows x) b) e ∙ wp.rows.row b lb li) ∙ sym (ap (λ (t : Bool). t && can_take rows k (j ∷ Taken) b) (lt-leb (suc i) k (omega arith)))
        go (inr e) (inl q) = off_has _ b (ap (bit (at less.rows k)) q ∙ wp.rows.column k lk lj) ∙ sym (gone (leb (suc i) k) (asks rows k b) (member b Taken) (eqb b j) (eq-eqb b j q))
          where
            gone : (x y z t : Bool) → t ≡ true → (x && (y && not (t || z))) ≡ false
            gone x true z t e = rw e (and-false x)
            gone x false z t e = and-false x
        go (inr e) (inr q) =
            ap {B = Bool} (λ (x : ℕ). eqb x 1) (wp.rows.other k b lk lb e q)
            ∙ h.left k b lk lb
            ∙ ap₂ (λ (x z : Bool). x && (asks rows k b && not (z || member b Taken))) (later k i e) (sym (ne_eqb b j q))

    -- the problem that is left has the requests of the one at hand, but for i and j
    less_sub : (k b : ℕ) → k < 32 → b < 32 → asks less.rows k b ≡ true → (k ≢ i) × (b ≢ j) × (asks h.problem.rows k b ≡ true)
    unfolding asks
    less_sub k b lk lb e = (no_i, no_j, on_has _ b (sym (wp.rows.other k b lk lb no_i no_j) ∙ one))
      where
        one : bit (at less.rows k) b ≡ 1
        one = has_on _ b e

        no_i : k ≢ i
        no_i q = absurd (omega (arith, wp.rows.row b lb li, ap (λ (x : ℕ). bit (at less.rows x) b) q, one))

        no_j : b ≢ j
        no_j q = absurd (omega (arith, wp.rows.column k lk lj, ap (bit (at less.rows k)) q, one))

    abbrev worth : ℕ → ℕ → ℕ
    worth k b = at ins k + at outs b

    -- what the option weighs, by a heaviest match of what it leaves
    option_is : (q : Pairing) → Heaviest less.rows ins outs q → option rows ins outs (31 - i) i Taken j ≡ worth i j + weight 32 32 (at ins) (at outs) (at q.mine)
    unfolding gain
    option_is q g =
        let w = rest_weight rows ins outs (31 - i) (suc i) fill_next (j ∷ Taken) (at q.mine)
        (match_over less_left (at q.mine) (match_of_paired less.rows q g.paired)) (greatest_over less_left (at ins) (at outs) (at q.mine) g.greatest) in
        omega (arith, w, keep_lt j 32 (worth i j) lj)

    -- ---- the match at hand has i at j: without that pair it is heaviest for what is left
    module _ (now : at s.pairing.mine i ≡ j) (q : Pairing) (u : Unlink s.pairing i q) where
      m : ℕ → ℕ
      m = at s.pairing.mine

      kept_paired : Paired (wants less.rows) q
      kept_paired = parted_over (wants h.problem.rows) (wants less.rows) q i j (u.keeps _ h.heavy.paired) (omega (arith, u.changed.mine.here))
          (omega (arith, u.changed.gave (omega arith), ap (at q.theirs) now)) (λ x b lx lb d e o. wp.rows.other x b lx lb d e ∙ o)

      dropped : (k : ℕ) → k < 32 → at q.mine k ≡ put m i 32 k
      unfolding m
      dropped k lk = go (eq_or_ne k i)
        where
          go : (k ≡ i) ⊎ (k ≢ i) → at q.mine k ≡ put m i 32 k
          go (inl e) = ap (at q.mine) e ∙ u.changed.mine.here ∙ sym (put_same m i 32 k e)
          go (inr d) = u.changed.mine.other k d ∙ sym (put_other m i 32 k d)

      kept_weight : weight 32 32 (at ins) (at outs) (at q.mine) + worth i j ≡ weight 32 32 (at ins) (at outs) (at s.pairing.mine)
      unfolding m
      kept_weight = omega (
        arith,
        total_same worth (at q.mine) (put m i 32) dropped,
        total_drop 32 32 worth m i 32 li (omega arith) (omega arith),
        ap (worth i) now,
      )

      kept_greatest : Greatest (asks less.rows) 32 32 (at ins) (at outs) (at q.mine)
      kept_greatest y my = omega (
        arith,
        h.heavy.greatest (put y i j) (put_match over i j asked free),
        total_join 32 32 worth y i j li idle lj,
        kept_weight,
      )
        where
          over : Match (asks h.problem.rows) 32 32 y
          over = record { asked = λ k lk l. (less_sub k (y k) lk l (my.asked k lk l)).2; apart = my.apart }

          asked : asks h.problem.rows i j ≡ true
          asked = subst (λ (b : ℕ). asks h.problem.rows i b ≡ true) now ((match_of_paired h.problem.rows s.pairing h.heavy.paired).asked i li (omega arith))

          free : (k : ℕ) → k < 32 → y k ≢ j
          free k lk e = (less_sub k (y k) lk (omega arith) (my.asked k lk (omega arith))).1 e

          idle : 32 ≤ y i
          idle = go (lt_or_ge (y i) 32)
            where
              go : (y i < 32) ⊎ (32 ≤ y i) → 32 ≤ y i
              go (inl l) = absurd ((less_sub i (y i) li l (my.asked i li l)).0 refl)
              go (inr g) = g

      pub kept : Heaviest less.rows ins outs q
      kept = record { paired = kept_paired; greatest = kept_greatest }

  -- ---- the choice

  abbrev Fails : ℕ → Type 0
  Fails b = FailsAt rows ins outs s i b

  -- one that is not requested
  pub fails_idle : (b : ℕ) → b < 32 → bit (at h.problem.rows i) b ≡ 0 → Fails b
  unfolding asks
  fails_idle b lb z c o = clash (can_take_lem b lb ∙ c) (off_has (at h.problem.rows i) b z)

  module _ (j : ℕ) (lj : j < 32) (t : Rest) (d : Gone all ins outs s i j t) where
    wp : WithoutPair h.problem i j d.problem
    wp = without_pair h.is_left d.ins_less d.outs_less d.is_left

    -- one whose trial weighs less
    pub fails_trial : (t.weight + (at ins i + at outs j) ≡ s.weight → ⊥) → Fails j
    fails_trial ne c o = ne (omega (arith, option_is j lj d.problem wp t.pairing d.heavy, d.weighs))

    numbers_are : numbers t.partners ≡ set (numbers s.partners) i j
    numbers_are = ap numbers d.partners ∙ numbers_set s.partners i j

    inside : i < length (numbers s.partners)
    inside = omega (arith, h.fixed.full)

    -- the first that does not fail
    pub gone_state : asks h.problem.rows i j ≡ true → t.weight + (at ins i + at outs j) ≡ s.weight → ((b : ℕ) → b < j → Fails b) → State all rows ins outs t (suc i)
    gone_state a e below = record {
      problem = d.problem;
      is_left = d.is_left;
      heavy = d.heavy;
      weighs = d.weighs;
      left = λ k b lk lb. less_left j lj d.problem wp k b lk lb ∙ ap (λ (x : List ℕ). rest_e rows (suc i) x k b) (sym now_taken);
      fixed = rw numbers_are (fixed_output rows ins outs (numbers s.partners) (31 - i) i fill h.fixed j lj chosen);
      unset = λ k l lk. ap (λ (x : List ℕ). at x k) numbers_are ∙ get_or-set_other (numbers s.partners) i k j 0 (λ q. omega arith) ∙ h.unset k (omega arith) lk;
    }
      where
        now_taken : taken_of (numbers t.partners) (suc i) ≡ j ∷ Taken
        now_taken = ap (λ (x : List ℕ). taken_of x (suc i)) numbers_are ∙ taken_set_output (numbers s.partners) i j inside lj

        chosen : best_from rows ins outs (suc (31 - i)) i Taken ≡ add j (gain ins outs i j) (best_from rows ins outs (31 - i) (suc i) (j ∷ Taken))
        chosen = choose_output rows ins outs (31 - i) i Taken s.weight whole j lj (sym (can_take_lem j lj) ∙ a)
            (omega (arith, option_is j lj d.problem wp t.pairing d.heavy, d.weighs)) (λ b l c o. below b l c o)

  -- ---- none: every option fails
  module _ (j : ℕ) (g : 32 ≤ j) (idle : 32 ≤ at s.pairing.mine i) (less : Problem) (wp : WithoutPair h.problem i j less) where
    other_row : (k b : ℕ) → k < 32 → b < 32 → k ≢ i → bit (at less.rows k) b ≡ bit (at h.problem.rows k) b
    other_row k b lk lb d = wp.rows.other k b lk lb d (λ e. absurd (omega arith))

    none_left : (k b : ℕ) → k < 32 → b < 32 → asks less.rows k b ≡ rest_e rows (suc i) Taken k b
    unfolding asks
    none_left k b lk lb = go (eq_or_ne k i)
      where
        go : (k ≡ i) ⊎ (k ≢ i) → asks less.rows k b ≡ rest_e rows (suc i) Taken k b
        go (inl e) = off_has _ b (ap (λ (x : ℕ). bit (at less.rows x) b) e ∙ wp.rows.row b lb li) ∙ sym (ap (λ (t : Bool). t && can_take rows k Taken b) (lt-leb (suc i) k (omega arith)))
        go (inr d) = ap {B = Bool} (λ (x : ℕ). eqb x 1) (other_row k b lk lb d) ∙ h.left k b lk lb ∙ ap (λ (t : Bool). t && can_take rows k Taken b) (later k i d)

    none_heavy : Heaviest less.rows ins outs s.pairing
    unfolding asks
    none_heavy = record {
      paired = paired_over (wants h.problem.rows) (wants less.rows) s.pairing
          (λ x lx l. other_row x (at s.pairing.mine x) lx l (λ e. absurd (omega (arith, ap (at s.pairing.mine) e))) ∙ h.heavy.paired.pairs.asked x lx l) h.heavy.paired;
      greatest = λ y my. h.heavy.greatest y (record { asked = λ k lk l. over y my k lk l (eq_or_ne k i); apart = my.apart });
    }
      where
        over : (y : ℕ → ℕ) → Match (asks less.rows) 32 32 y → (k : ℕ) → k < 32 → y k < 32 → (k ≡ i) ⊎ (k ≢ i) → asks h.problem.rows k (y k) ≡ true
        over y my k lk l (inl e) = absurd (omega (arith, has_on (at less.rows k) (y k) (my.asked k lk l), ap (λ (x : ℕ). bit (at less.rows x) (y k)) e, wp.rows.row (y k) l li))
        over y my k lk l (inr d) = on_has _ (y k) (sym (other_row k (y k) lk l d) ∙ has_on _ (y k) (my.asked k lk l))

    none_state : ((b : ℕ) → b < 32 → Fails b) → (t : Rest) → LeftOf all t.ins t.outs less → KeptNone s t → State all rows ins outs t (suc i)
    none_state every t lf k = record {
      problem = less;
      is_left = lf;
      heavy = rw k.pairing none_heavy;
      weighs = rw (k.pairing, k.weight) h.weighs;
      left = λ k b lk lb. none_left k b lk lb ∙ ap (λ (x : List ℕ). rest_e rows (suc i) x k b) (sym now_taken);
      fixed = rw k.partners (fixed_kept rows ins outs (numbers s.partners) (31 - i) i fill h.fixed (h.unset i (omega arith) li) (choose_none rows ins outs (31 - i) i Taken s.weight whole every));
      unset = λ j l lj. rw k.partners (h.unset j (omega arith) lj);
    }
      where
        now_taken : taken_of (numbers t.partners) (suc i) ≡ Taken
        now_taken = rw k.partners (taken_none (numbers s.partners) i (omega (arith, h.unset i (omega arith) li)))

  -- ---- the candidates that are left, and those that failed

  is_requested : (b : ℕ) → b < 32 → bit (at h.problem.rows i) b ≡ requested all s i b
  is_requested b lb = h.is_left.rows i b li lb

  pub placing_begin : (now left : ℕ) → now ≡ at s.pairing.mine i → Candidates all s i now left → Placing all rows ins outs s i left
  placing_begin now left en c = record {
    within = λ b lb o. (let w = c.within b lb o in (w.0, omega (arith, w.1)));
    failed = λ b lb l z. fails_idle b lb (is_requested b lb ∙ c.rest b lb (omega arith) z);
  }

  module _ (left : ℕ) (pl : Placing all rows ins outs s i left) (some : 0 < left) (j : ℕ) (lo : Lowest left j) where
    pub candidate : j < 32
    candidate = lo.inside some

    pub placing_lost : Fails j → (left' : ℕ) → Without left j left' → Placing all rows ins outs s i left'
    placing_lost f left' w = record {
      within = λ b lb o. pl.within b lb (sym (w.other b (λ z. omega (arith, ap (bit left') z, w.here))) ∙ o);
      failed = λ b lb l o. one b lb l o (eq_or_ne b j);
    }
      where
        one : (b : ℕ) → b < 32 → b < at s.pairing.mine i → bit left' b ≡ 0 → (b ≡ j) ⊎ (b ≢ j) → Fails b
        one b lb l o (inl e) = rw e f
        one b lb l o (inr d) = pl.failed b lb l (sym (w.other b d) ∙ o)

    pub placing_won : (t : Rest) → Gone all ins outs s i j t → t.weight + (at ins i + at outs j) ≡ s.weight → State all rows ins outs t (suc i)
    unfolding asks
    placing_won t d e =
        let in_j = pl.within j candidate (lo.here candidate) in
        gone_state j candidate t d (on_has _ j (is_requested j candidate ∙ in_j.0)) e (λ b l. pl.failed b (omega (arith, candidate)) (omega (arith, in_j.1)) (lo.none_below b l))

  -- the candidates are through: input i keeps what it has
  module _ (pl : Placing all rows ins outs s i 0) where
    all_failed : (b : ℕ) → b < 32 → b < at s.pairing.mine i → Fails b
    all_failed b lb l = pl.failed b lb l (bit_of_zero b)

    pub keeps : (t : Rest) → Keeping ins outs s i t → State all rows ins outs t (suc i)
    unfolding asks
    keeps t k = go (lt_or_ge (at s.pairing.mine i) 32) (left_exists all t.ins t.outs)
      where
        now : ℕ
        now = at s.pairing.mine i

        go : (at s.pairing.mine i < 32) ⊎ (32 ≤ at s.pairing.mine i) → (rest : Problem) × LeftOf all t.ins t.outs rest → State all rows ins outs t (suc i)
        go (inl l) (rest, lf) =
            let w = without_pair h.is_left k.ins_less k.outs_less lf in
            let p = k.matched l in
            gone_state (at s.pairing.mine i) l t (record {
              ins_less = k.ins_less;
              outs_less = k.outs_less;
              problem = rest;
              is_left = lf;
              heavy = kept (at s.pairing.mine i) l rest w refl t.pairing p.unlinked;
              weighs = p.weighs;
              small = p.small;
              partners = p.partners;
            })
            (on_has _ (at s.pairing.mine i) (h.heavy.paired.pairs.asked i li l))
            (omega (arith, kept_weight (at s.pairing.mine i) l rest w refl t.pairing p.unlinked, h.weighs, p.weighs))
            (λ b lb. all_failed b (omega arith) lb)
        go (inr g) (rest, lf) =
            none_state (at s.pairing.mine i) g g rest (without_pair h.is_left k.ins_less k.outs_less lf) (λ b lb. all_failed b lb (omega arith)) t lf (k.idle g)

-- ---- the run

nobody : (x z : Bool) {y : Bool} → y ≡ false → (x && (y && z)) ≡ false
nobody true z e = rw e
nobody false z e = refl

-- an input without a request: nothing changes
pub skip_state : (all : Problem) (rows ins outs : List ℕ) (s : Rest) (i : ℕ) → i < 32 → at rows i ≡ 0 → State all rows ins outs s i → State all rows ins outs s (suc i)
unfolding asks
skip_state all rows ins outs s i li z h = record {
  problem = h.problem;
  is_left = h.is_left;
  heavy = h.heavy;
  weighs = h.weighs;
  left = λ k b lk lb. h.left k b lk lb ∙ same k b (eq_or_ne k i) ∙ ap (λ (x : List ℕ). rest_e rows (suc i) x k b) (sym now_taken);
  fixed = fixed_kept rows ins outs (numbers s.partners) (31 - i) i (omega arith) h.fixed (h.unset i (omega arith) li)
      (choose_none rows ins outs (31 - i) i T _ refl (λ b lb c o. clash (and_both _ _ c).0 (silent b)));
  unset = λ k l lk. h.unset k (omega arith) lk;
}
  where
    T : List ℕ
    T = taken_of (numbers s.partners) i

    silent : (b : ℕ) → asks rows i b ≡ false
    silent b = off_has (at rows i) b (ap (λ (x : ℕ). bit x b) z ∙ bit_of_zero b)

    now_taken : taken_of (numbers s.partners) (suc i) ≡ T
    now_taken = taken_none (numbers s.partners) i (omega (arith, h.unset i (omega arith) li))

    same : (k b : ℕ) → (k ≡ i) ⊎ (k ≢ i) → rest_e rows i T k b ≡ rest_e rows (suc i) T k b
    same k b (inl e) = let f : asks rows k b ≡ false = ap (λ (x : ℕ). asks rows x b) e ∙ silent b in nobody (leb i k) _ f ∙ sym (nobody (leb (suc i) k) _ f)
    same k b (inr d) = ap (λ (t : Bool). t && can_take rows k T b) (later k i d)

pub state_fit : (all : Problem) (rows ins outs : List ℕ) (s : Rest) (i : ℕ) → State all rows ins outs s i → Fit all s
state_fit all rows ins outs s i h = record { problem = h.problem; is_left = h.is_left; paired = h.heavy.paired }

-- rows by another name
pub state_over : (all : Problem) (rows rows' ins outs : List ℕ) (s : Rest) (i : ℕ) → rows ≡ rows' → State all rows ins outs s i → State all rows' ins outs s i
state_over all rows rows' ins outs s i e h = subst (λ (x : List ℕ). State all x ins outs s i) e h

-- ---- the beginning and the end

all_left : (rows p : List ℕ) (k b : ℕ) → asks rows k b ≡ rest_e rows 0 (taken_of p 0) k b
unfolding taken_of member
all_left rows p k b = sym (ap (λ (t : Bool). t && (asks rows k b && true)) (le-leb 0 k (omega arith)) ∙ plain (asks rows k b))
  where
    plain : (t : Bool) → (t && true) ≡ t
    plain true = refl
    plain false = refl

numbers_replicate : (n j : ℕ) → numbers (replicate n (out j)) ≡ replicate n j
numbers_replicate zero j = refl
numbers_replicate (suc n) j = ap (λ (l : List ℕ). j ∷ l) (numbers_replicate n j)

pub no_partners : (k : ℕ) → k < 32 → at (numbers (replicate 32 (out none))) k ≡ none
no_partners k l = ap (λ (x : List ℕ). at x k) (numbers_replicate 32 none) ∙ get_or-replicate 32 k none 0 l

-- the whole problem is what is left at first
whole_left : (all : Problem) → LeftOf all all.ins all.outs all
whole_left all = record { rows = λ k b lk lb. bits k b lk lb (lt_or_ge 0 (bit all.ins k)) (lt_or_ge 0 (bit all.outs b)) }
  where
    bits : (k b : ℕ) → k < 32 → b < 32 → (0 < bit all.ins k) ⊎ (bit all.ins k ≤ 0) → (0 < bit all.outs b) ⊎ (bit all.outs b ≤ 0)
        → bit (at all.rows k) b ≡ min (bit all.ins k) (min (bit (at all.rows k) b) (bit all.outs b))
    bits k b lk lb (inr z) o = omega (arith, ap (λ (x : ℕ). bit x b) (all.others_idle k lk (omega arith)), bit_of_zero b)
    bits k b lk lb (inl i) (inr z) = omega (arith, all.turned k b lk lb, ap (λ (x : ℕ). bit x k) (all.others_free b lb (omega arith)), bit_of_zero k)
    bits k b lk lb (inl i) (inl o) = omega (arith, bit_lt (at all.rows k) b)

pub state_begin : (all : Problem) (ins outs : List ℕ) (s : Rest) → s.ins ≡ all.ins → s.outs ≡ all.outs → Heaviest all.rows ins outs s.pairing
    → s.weight ≡ weight 32 32 (at ins) (at outs) (at s.pairing.mine) → s.partners ≡ replicate 32 (out none) → State all all.rows ins outs s 0
state_begin all ins outs s ei eo g ew ep = record {
  problem = all;
  is_left = rw (ei, eo) (whole_left all);
  heavy = g;
  weighs = ew;
  left = λ k b lk lb. all_left all.rows (numbers s.partners) k b;
  fixed = fixed_begin all.rows ins outs (numbers s.partners) (numbers_length s.partners ∙ ap length ep ∙ length-replicate 32 (out none));
  unset = λ k _ l. ap (λ (x : List Out). at (numbers x) k) ep ∙ no_partners k l;
}

asks_has : (rows : List ℕ) (k b : ℕ) → asks rows k b ≡ has (at rows k) b
unfolding asks
asks_has rows k b = refl

-- a heaviest match weighs what `best` does
heaviest_weight : (rows ins outs : List ℕ) (p : Pairing) → Heaviest rows ins outs p → weight 32 32 (at ins) (at outs) (at p.mine) ≡ weight_of ins outs (best rows ins outs)
unfolding weight_of
heaviest_weight rows ins outs p g =
    let b = best_is_best rows ins outs in
    le_antisymm (list_greatest rows ins outs (best rows ins outs) b.heaviest (at p.mine) (match_of_paired rows p g.paired)) (g.greatest (partner (best rows ins outs)) b.match.match)

pub state_end : (all : Problem) (rows ins outs : List ℕ) (s t : Rest) (i : ℕ) → 32 ≤ i → i ≤ 32 → State all rows ins outs s 0 → State all rows ins outs t i → (r : Found) → r.partners ≡ t.partners → r.weight ≡ s.weight
    → FirstOf rows ins outs r
state_end all rows ins outs s t i g l h e r ep ew = record {
  partners = ap numbers ep ∙ fixed_end rows ins outs (numbers t.partners) (let z : i ≡ 32 = omega arith in rw z at e.fixed);
  weighs = ew ∙ h.weighs ∙ heaviest_weight rows ins outs s.pairing (first_heavy all rows ins outs s h);
}
  where
    first_heavy : (all : Problem) (rows ins outs : List ℕ) (s : Rest) → State all rows ins outs s 0 → Heaviest rows ins outs s.pairing
    first_heavy all rows ins outs s h = record {
      paired = paired_over (wants h.problem.rows) (wants rows) s.pairing (λ x lx l. at_rows x (at s.pairing.mine x) lx l (h.heavy.paired.pairs.asked x lx l)) h.heavy.paired;
      greatest = greatest_over same (at ins) (at outs) (at s.pairing.mine) h.heavy.greatest;
    }
      where
        same : (k b : ℕ) → k < 32 → b < 32 → asks h.problem.rows k b ≡ asks rows k b
        same k b lk lb = h.left k b lk lb ∙ sym (all_left rows (numbers s.partners) k b)

        at_rows : (k b : ℕ) → k < 32 → b < 32 → bit (at h.problem.rows k) b ≡ 1 → bit (at rows k) b ≡ 1
        at_rows k b lk lb o = has_on (at rows k) b (sym (asks_has rows k b) ∙ sym (same k b lk lb) ∙ asks_has h.problem.rows k b ∙ on_has (at h.problem.rows k) b o)
