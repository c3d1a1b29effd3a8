-- What the steps promise that turn rows into columns and take a pair out, and why they add up. Assumes nothing.
use Rattle.std.specs.Prelude.{◌≡◌, refl, List, ℕ, zero, suc, ◌+◌, ◌^◌, ◌≤◌, ◌<◌, min, max, length, set, replicate, Bool, true, false, ◌&&◌, ◌⊎◌, eqb}
use Rattle.std.proofs.Common.{sym, ap, ◌∙◌, arith, length-set, get_or-set_same, get_or-set_other, inl, inr, lt-ltb}
use Rattle.std.proofs.Math.Decide.{ℕ_discrete}
use Rattle.std.proofs.lemmas.List.{length-replicate, get_or-replicate}
use Rattle.masks.specs.Paper.{bit, has, keep, some, With, Without}
use Rattle.masks.specs.Tests.{cases, clash, off, some_of, some_at}
use Rattle.masks.proofs.Laws.{bit_lt, bit_of_zero, no_bits, has_on, has_off, on_has, off_has}
use Rattle.card.specs.Paper.{ports}
use Rattle.matches.specs.Paper.{at, tab, asks, mask, in_asks}
use Rattle.matches.proofs.Lists.{get_or_tab}
use Rattle.matches.proofs.Table.{bit_mask, mask_lt}
use Rattle.search.specs.declared.problem.Problem.{Problem}
use Rattle.search.specs.Problem.{Asking, WithoutPair, LeftOf}

-- ---- COLUMNS

-- r is cols with input i in the column of each output of row
pub record Spread (cols : List ℕ) (row i : ℕ) (r : List ℕ) : Type 0 where
  pub long : length r ≡ 32
  pub here : (j : ℕ) → j < 32 → bit (at r j) i ≡ max (bit (at cols j) i) (bit row j)
  pub other : (j k : ℕ) → (k ≡ i → ⊥) → bit (at r j) k ≡ bit (at cols j) k

-- the same on the way: the outputs that are left have yet to be visited
pub record Spreading (cols : List ℕ) (row i : ℕ) (to : List ℕ) (left : ℕ) : Type 0 where
  pub long : length to ≡ 32
  pub here : (j : ℕ) → j < 32 → max (bit (at to j) i) (bit left j) ≡ max (bit (at cols j) i) (bit row j)
  pub other : (j k : ℕ) → (k ≡ i → ⊥) → bit (at to j) k ≡ bit (at cols j) k

pub spread_begin : {cols : List ℕ} {row i : ℕ} (left : ℕ) → length cols ≡ 32 → left ≡ row → Spreading cols row i cols left
spread_begin {cols} {row} {i} left l e = record { long = l; here = λ j _. ap (λ (x : ℕ). max (bit (at cols j) i) (bit x j)) e; other = λ j k d. refl }

-- one turn: input i joins column j, and j is no longer left
pub spread_turn : {cols : List ℕ} {row i : ℕ} {to : List ℕ} {left : ℕ} (j v less : ℕ) → Spreading cols row i to left
    → i < 32 → j < 32 → bit left j ≡ 1 → With (at to j) i v → Without left j less → Spreading cols row i (set to j v) less
spread_turn {cols} {row} {i} {to} {left} j v less s li lj on joined gone = record {
  long = simp length-set s.long;
  here = λ k l. now k ∙ s.here k l;
  other = λ k b d. kept k b d ∙ s.other k b d;
}
  where
    now : (k : ℕ) → max (bit (at (set to j v) k) i) (bit less k) ≡ max (bit (at to k) i) (bit left k)
    now k = elim (ℕ_discrete k j) [
      | yes e ↦ rw (e, get_or-set_same to j v 0 (omega (arith, s.long))) (omega (arith, joined.here li, gone.here, bit_lt (at to j) i))
      | no d ↦ rw (get_or-set_other to j k v 0 d) (omega (arith, gone.other k d))
    ]

    kept : (k b : ℕ) → (b ≡ i → ⊥) → bit (at (set to j v) k) b ≡ bit (at to k) b
    kept k b d = elim (ℕ_discrete k j) [
      | yes e ↦ rw (e, get_or-set_same to j v 0 (omega (arith, s.long))) (joined.other b d)
      | no q ↦ rw (get_or-set_other to j k v 0 q)
    ]

pub spread_done : {cols : List ℕ} {row i : ℕ} {to : List ℕ} {left : ℕ} → Spreading cols row i to left → left ≡ 0 → Spread cols row i to
spread_done {left = left} s e = record {
  long = s.long;
  here = λ j l. omega (arith, s.here j l, ap (λ (x : ℕ). bit x j) e, bit_of_zero j);
  other = s.other;
}

-- cols has the columns of the first n rows
pub record Turned (n : ℕ) (rows cols : List ℕ) : Type 0 where
  pub long : length cols ≡ 32
  pub done : (i j : ℕ) → i < n → j < 32 → bit (at cols j) i ≡ bit (at rows i) j
  pub later : (i j : ℕ) → n ≤ i → j < 32 → bit (at cols j) i ≡ 0

pub turned_none : (rows : List ℕ) → Turned 0 rows (replicate 32 0)
turned_none rows = record {
  long = length-replicate {A = ℕ} 32 0;
  done = λ i j l. absurd (omega arith);
  later = λ i j _ l. ap (λ (x : ℕ). bit x i) (get_or-replicate 32 j 0 0 l) ∙ bit_of_zero i;
}

pub turned_more : {n : ℕ} {rows cols more : List ℕ} → Turned n rows cols → Spread cols (at rows n) n more → Turned (n + 1) rows more
turned_more {n} {rows} {cols} {more} t s = record {
  long = s.long;
  done = λ i j li lj. elim (ℕ_discrete i n) [
    | yes e ↦ rw e (omega (arith, s.here j lj, t.later n j (omega arith) lj))
    | no d ↦ s.other j i d ∙ t.done i j (omega (arith, d)) lj
  ];
  later = λ i j li lj. s.other j i (λ e. omega arith) ∙ t.later i j (omega arith) lj;
}

-- ---- WHO ASKS

-- a row that is not 0 has a request
in_asks_lem : (rows : List ℕ) (i : ℕ) → at rows i < 2 ^ 32 → (at rows i ≡ 0 → ⊥) → in_asks rows i ≡ true
unfolding in_asks asks
in_asks_lem rows i fits d = go (cases (some ports (asks rows i)))
  where
    none : some ports (asks rows i) ≡ false → (j : ℕ) → j < 32 → bit (at rows i) j ≡ 0
    none f j l = has_off (at rows i) j (off (λ t. clash (some_of ports (asks rows i) j l t) f))

    go : (some ports (asks rows i) ≡ true) ⊎ (some ports (asks rows i) ≡ false) → some ports (asks rows i) ≡ true
    go (inl t) = t
    go (inr f) = absurd (d (no_bits 32 (at rows i) fits (none f)))

in_idle : (rows : List ℕ) (i : ℕ) → at rows i ≡ 0 → in_asks rows i ≡ false
unfolding in_asks asks
in_idle rows i e =
    off (λ t.
    let k = some_at ports (asks rows i) t in
    absurd (omega (arith, has_on _ _ k.2, ap (λ (x : ℕ). bit x k.0) e, bit_of_zero k.0)))

-- r is set, with port i where its row is not empty
pub record Marked (set row i r : ℕ) : Type 0 where
  pub none : row ≡ 0 → bit r i ≡ bit set i
  pub here : (row ≡ 0 → ⊥) → bit r i ≡ 1
  pub other : (k : ℕ) → (k ≡ i → ⊥) → bit r k ≡ bit set k

-- set has those of the first n ports that have a request, and no other
pub record AskingOf (n : ℕ) (rows : List ℕ) (set : ℕ) : Type 0 where
  pub is : (k : ℕ) → k < n → has set k ≡ in_asks rows k
  pub outside : (k : ℕ) → k < n → bit set k ≡ 0 → at rows k ≡ 0
  pub later : (k : ℕ) → n ≤ k → bit set k ≡ 0

pub asking_none : (rows : List ℕ) → AskingOf 0 rows 0
asking_none rows = record { is = λ k l. absurd (omega arith); outside = λ k l. absurd (omega arith); later = λ k _. bit_of_zero k }

pub asking_more : {n : ℕ} {rows : List ℕ} {set more : ℕ} → at rows n < 2 ^ 32 → AskingOf n rows set → Marked set (at rows n) n more → AskingOf (n + 1) rows more
asking_more {n} {rows} {set} {more} fits a m = record {
  is = λ k l. elim (ℕ_discrete k n) [
    | yes e ↦ rw e (here (ℕ_discrete (at rows n) 0))
    | no d ↦ ap {B = Bool} (λ (x : ℕ). eqb x 1) (m.other k d) ∙ a.is k (omega (arith, d))
  ];
  outside = λ k l z. elim (ℕ_discrete k n) [
    | yes e ↦ rw e (empty (ap (bit more) (sym e) ∙ z) (ℕ_discrete (at rows n) 0))
    | no d ↦ a.outside k (omega (arith, d)) (sym (m.other k d) ∙ z)
  ];
  later = λ k l. m.other k (λ e. omega arith) ∙ a.later k (omega arith);
}
  where
    here : Dec (at rows n ≡ 0) → has more n ≡ in_asks rows n
    here (yes z) = off_has more n (m.none z ∙ a.later n (omega arith)) ∙ sym (in_idle rows n z)
    here (no d) = on_has more n (m.here d) ∙ sym (in_asks_lem rows n fits d)

    empty : bit more n ≡ 0 → Dec (at rows n ≡ 0) → at rows n ≡ 0
    empty z (yes e) = e
    empty z (no d) = absurd (omega (arith, m.here d))

pub asking_all : {rows : List ℕ} {set : ℕ} → AskingOf 32 rows set → Asking rows set
asking_all a = record { is = a.is; outside = a.outside }

-- ---- WHAT IS LEFT

-- r is the row where its port stays, with those of theirs that do
pub record Kept (stays : Bool) (row theirs r : ℕ) : Type 0 where
  pub on : stays ≡ true → (b : ℕ) → bit r b ≡ min (bit row b) (bit theirs b)
  pub off : stays ≡ false → r ≡ 0

pub kept_bits : (mine k row theirs r : ℕ) → Kept (has mine k) row theirs r → (b : ℕ) → bit r b ≡ min (bit mine k) (min (bit row b) (bit theirs b))
kept_bits mine k row theirs r h b = go (cases (has mine k))
  where
    go : (has mine k ≡ true) ⊎ (has mine k ≡ false) → bit r b ≡ min (bit mine k) (min (bit row b) (bit theirs b))
    go (inl t) = omega (arith, h.on t b, has_on mine k t, bit_lt row b)
    go (inr f) = omega (arith, ap (λ (x : ℕ). bit x b) (h.off f), bit_of_zero b, has_off mine k f)

-- r is rows with the first n narrowed
pub record Narrow (n : ℕ) (rows : List ℕ) (mine theirs : ℕ) (r : List ℕ) : Type 0 where
  pub long : length r ≡ 32
  pub done : (k b : ℕ) → k < n → bit (at r k) b ≡ min (bit mine k) (min (bit (at rows k) b) (bit theirs b))
  pub empty : (k : ℕ) → k < n → bit mine k ≡ 0 → at r k ≡ 0
  pub later : (k : ℕ) → n ≤ k → at r k ≡ at rows k

pub narrow_more : {n : ℕ} {rows : List ℕ} {mine theirs : ℕ} {r : List ℕ} (v : ℕ) → Narrow n rows mine theirs r → n < 32
    → Kept (has mine n) (at r n) theirs v → Narrow (n + 1) rows mine theirs (set r n v)
narrow_more {n} {rows} {mine} {theirs} {r} v t l m = record {
  long = simp length-set t.long;
  done = λ k b u. elim (ℕ_discrete k n) [
    | yes e ↦ rw (e, get_or-set_same r n v 0 (omega (arith, t.long))) (kept_bits mine n (at r n) theirs v m b ∙ ap (λ (x : ℕ). min (bit mine n) (min (bit x b) (bit theirs b))) (t.later n (omega arith)))
    | no d ↦ rw (get_or-set_other r n k v 0 d) (t.done k b (omega (arith, d)))
  ];
  empty = λ k u z. elim (ℕ_discrete k n) [
    | yes e ↦ rw (e, get_or-set_same r n v 0 (omega (arith, t.long))) (m.off (off_has mine n (ap (bit mine) (sym e) ∙ z)))
    | no d ↦ rw (get_or-set_other r n k v 0 d) (t.empty k (omega (arith, d)) z)
  ];
  later = λ k u. get_or-set_other r n k v 0 (λ e. omega arith) ∙ t.later k (omega arith);
}

-- one side of what is left
pub record Left (rows : List ℕ) (mine theirs : ℕ) (r : List ℕ) : Type 0 where
  pub bits : (k b : ℕ) → k < 32 → b < 32 → bit (at r k) b ≡ min (bit mine k) (min (bit (at rows k) b) (bit theirs b))
  pub empty : (k : ℕ) → k < 32 → bit mine k ≡ 0 → at r k ≡ 0

pub narrow_left : {rows : List ℕ} {mine theirs : ℕ} {r : List ℕ} → Narrow 32 rows mine theirs r → Left rows mine theirs r
narrow_left t = record { bits = λ k b lk lb. t.done k b lk; empty = t.empty }

-- both sides lose the same requests, so they still agree
pub left_turned : {rows cols r c : List ℕ} {ins outs : ℕ} → ((i j : ℕ) → i < 32 → j < 32 → bit (at cols j) i ≡ bit (at rows i) j) → Left rows ins outs r → Left cols outs ins c
    → (i j : ℕ) → i < 32 → j < 32 → bit (at c j) i ≡ bit (at r i) j
left_turned t r c i j li lj = omega (arith, r.bits i j li lj, c.bits j i lj li, t i j li lj)

-- ---- the same, as a definition

narrowed : List ℕ → ℕ → ℕ → List ℕ
narrowed rows mine theirs = tab 32 (λ k. mask 32 (λ b. has mine k && (has (at rows k) b && has theirs b)))

all_of : (x y z : ℕ) → x < 2 → y < 2 → z < 2 → keep (eqb x 1 && (eqb y 1 && eqb z 1)) 1 ≡ min x (min y z)
all_of zero y z _ _ _ = sym (omega arith)
all_of (suc zero) zero z _ _ _ = sym (omega arith)
all_of (suc zero) (suc zero) zero _ _ _ = sym (omega arith)
all_of (suc zero) (suc zero) (suc zero) _ _ _ = sym (omega arith)
all_of (suc zero) (suc zero) (suc (suc z)) _ _ h = absurd (omega arith)
all_of (suc zero) (suc (suc y)) z _ h _ = absurd (omega arith)
all_of (suc (suc x)) y z h _ _ = absurd (omega arith)

narrowed_left : (rows : List ℕ) (mine theirs : ℕ) → Left rows mine theirs (narrowed rows mine theirs)
unfolding narrowed
narrowed_left rows mine theirs = record { bits = bits; empty = λ k lk z. no_bits 32 _ (rw (entry k lk) (mask_lt 32 _)) (λ b lb. omega (arith, bits k b lk lb)) }
  where
    row : ℕ → ℕ → Bool
    row k b = has mine k && (has (at rows k) b && has theirs b)

    entry : (k : ℕ) → k < 32 → at (tab 32 (λ k. mask 32 (row k))) k ≡ mask 32 (row k)
    entry k lk = get_or_tab 32 (λ k. mask 32 (row k)) k 0 lk

    bits : (k b : ℕ) → k < 32 → b < 32 → bit (at (tab 32 (λ k. mask 32 (row k))) k) b ≡ min (bit mine k) (min (bit (at rows k) b) (bit theirs b))
    bits k b lk lb = ap (λ (x : ℕ). bit x b) (entry k lk) ∙ bit_mask 32 (row k) b ∙ ap (λ (t : Bool). keep (t && row k b) 1) (lt-ltb b 32 lb)
        ∙ all_of (bit mine k) (bit (at rows k) b) (bit theirs b) (bit_lt mine k) (bit_lt (at rows k) b) (bit_lt theirs b)

left_of : Problem → ℕ → ℕ → Problem
left_of all ins outs =
    let r = narrowed_left all.rows ins outs in
    let c = narrowed_left all.cols outs ins in
    record {
      rows = narrowed all.rows ins outs;
      cols = narrowed all.cols outs ins;
      ins = ins;
      outs = outs;
      turned = left_turned all.turned r c;
      others_idle = r.empty;
      others_free = c.empty;
    }

pub left_exists : (all : Problem) (ins outs : ℕ) → (rest : Problem) × LeftOf all ins outs rest
unfolding left_of
left_exists all ins outs = (left_of all ins outs, record { rows = (narrowed_left all.rows ins outs).bits })

-- ---- a pair out

pub without_pair : {all p rest : Problem} {ins outs i j ins' outs' : ℕ} → LeftOf all ins outs p → Without ins i ins' → Without outs j outs' → LeftOf all ins' outs' rest → WithoutPair p i j rest
without_pair {all} {p} {rest} {ins} {outs} {i} {j} {ins'} {outs'} a wi wo b = record {
  rows = record {
    row = λ c lc li. omega (arith, b.rows i c li lc, wi.here);
    column = λ k lk lj. omega (arith, b.rows k j lk lj, wo.here);
    other = λ k c lk lc d e. omega (arith, b.rows k c lk lc, a.rows k c lk lc, wi.other k d, wo.other c e);
  };
}
