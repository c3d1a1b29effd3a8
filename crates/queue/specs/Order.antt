-- A queue gives its cells in the order it stored them. Assumes nothing.
use Rattle.std.specs.Prelude.{◌≡◌, ℕ, zero, suc, ◌+◌, ◌-◌, ◌%◌, ◌<◌, ◌≤◌, ◌≢◌, ◌⊎◌, List, [], ◌∷◌, ◌++◌, length, set, slice_index, slice_set, refl}
use Rattle.std.proofs.Common.{sym, ap, ap₂, ◌∙◌, inl, inr, mod-lt, mod-eq_of_lt, arith, length-set, get_or-set_same, get_or-set_other}
use Rattle.std.proofs.Math.Nat.{mod-eq-sub-mod, mod-mod, suc-mod}
use Rattle.masks.specs.Tests.{lt_or_ge}
use Rattle.queue.specs.Paper.{Ring, D, behind, stored, sent, round, in_order}

-- ---- places round the ring of d

-- a place of the first two turns
wrap : (d p : ℕ) → p < d + d → ((p < d) × (p % d ≡ p)) ⊎ ((d ≤ p) × (p % d ≡ p - d))
wrap d p b = go (lt_or_ge p d)
  where
    go : (p < d) ⊎ (d ≤ p) → ((p < d) × (p % d ≡ p)) ⊎ ((d ≤ p) × (p % d ≡ p - d))
    go (inl h) = inl (h, mod-eq_of_lt h)
    go (inr h) = inr (h, mod-eq-sub-mod h ∙ mod-eq_of_lt {n = p - d} {m = d} (omega arith))

-- two of them less than a whole turn apart
wrap_apart : (d p q : ℕ) → q < d + d → p < q → q < p + d → p % d ≢ q % d
wrap_apart d p q b l a e = go (wrap d p (omega arith)) (wrap d q b)
  where
    go : ((p < d) × (p % d ≡ p)) ⊎ ((d ≤ p) × (p % d ≡ p - d)) → ((q < d) × (q % d ≡ q)) ⊎ ((d ≤ q) × (q % d ≡ q - d)) → ⊥
    go (inl x) (inl y) = absurd (omega (arith, x.1, y.1))
    go (inl x) (inr y) = absurd (omega (arith, x.1, y.1))
    go (inr x) (inl y) = absurd (omega (arith, x.0, y.0))
    go (inr x) (inr y) = absurd (omega (arith, x.0, x.1, y.0, y.1))

-- ---- one list of D places, cells or stamps alike

-- from an equal place modulo D
round_from : (n p q : ℕ) (l : List ℕ) → p % length l ≡ q % length l → round n p l ≡ round n q l
unfolding round
round_from zero p q l e = refl
round_from (suc n) p q l e =
    ap₂ {C = List ℕ} ◌∷◌ (ap (λ (k : ℕ). slice_index l k) e)
    (round_from n (suc p) (suc q) l (suc-mod p (length l) ∙ ap (λ (k : ℕ). suc k % length l) e ∙ sym (suc-mod q (length l))))

-- a place that is not among the n
round_set : (n p : ℕ) (l : List ℕ) (b x : ℕ) → ((q : ℕ) → p ≤ q → q < p + n → q % length l ≢ b) → round n p (slice_set l b x) ≡ round n p l
unfolding round
round_set zero p l b x h = refl
round_set (suc n) p l b x h =
    ap₂ {C = List ℕ} ◌∷◌
    (ap (λ (d : ℕ). slice_index (slice_set l b x) (p % d)) (length-set l b x) ∙ get_or-set_other l b (p % length l) x 0 (h p (omega arith) (omega arith)))
    (round_set n (suc p) l b x (λ q a c. h q (omega arith) (omega arith)))

-- the last apart
round_last : (n p : ℕ) (l : List ℕ) → round (suc n) p l ≡ round n p l ++ (slice_index l ((p + n) % length l) ∷ [])
unfolding round
round_last zero p l = let e : p ≡ p + 0 = omega arith in ap (λ (k : ℕ). slice_index l (k % length l) ∷ []) e
round_last (suc n) p l =
    let e : suc p + n ≡ p + suc n = omega arith in
    ap (λ (r : List ℕ). slice_index l (p % length l) ∷ r)
    (round_last n (suc p) l ∙ ap (λ (k : ℕ). round n (suc p) l ++ (slice_index l (k % length l) ∷ [])) e)

-- storing: x comes last
pub round_store : (n h : ℕ) (l : List ℕ) (x : ℕ) → n < length l → h < length l → round (n + 1) h (slice_set l ((h + n) % length l) x) ≡ round n h l ++ (x ∷ [])
round_store n h l x a b =
    let e : n + 1 ≡ suc n = omega arith in
    let d = length l in
    let z = (h + n) % d in
    ap (λ (k : ℕ). round k h (slice_set l z x)) e
    ∙ round_last n h (slice_set l z x)
    ∙ ap₂ (λ (r : List ℕ) (y : ℕ). r ++ (y ∷ []))
    (round_set n h l z x (λ q u v. wrap_apart d q (h + n) (omega arith) (omega arith) (omega arith)))
    (ap (λ (k : ℕ). slice_index (slice_set l z x) ((h + n) % k)) (length-set l z x) ∙ get_or-set_same l z x 0 (mod-lt (h + n) (omega arith)))

-- sending: the first of them goes, and its place is set to 0
pub round_send : (n h : ℕ) (l : List ℕ) → 0 < n → n ≤ length l → h < length l → round n h l ≡ slice_index l h ∷ round (n - 1) ((h + 1) % length l) (slice_set l h 0)
unfolding round
round_send zero h l a b c = absurd (omega arith)
round_send (suc n) h l a b c =
    let d = length l in
    let e : n ≡ suc n - 1 = omega arith in
    let s : suc h ≡ h + 1 = omega arith in
    ap₂ {C = List ℕ} ◌∷◌ (ap (λ (k : ℕ). slice_index l k) (mod-eq_of_lt c))
    (sym (round_set n (suc h) l h 0 (λ q u v w. wrap_apart d h q (omega arith) (omega arith) (omega arith) (mod-eq_of_lt c ∙ sym w)))
    ∙ round_from n (suc h) ((h + 1) % d) (slice_set l h 0) (rw (length-set l h 0) (ap (λ (k : ℕ). k % d) s ∙ sym (mod-mod (h + 1) d)))
    ∙ ap (λ (k : ℕ). round k ((h + 1) % d) (slice_set l h 0)) e)

-- ---- a queue, of one of its two lists

-- `of` picks the list, in which a cell stored in a slot leaves what `given` says
pub record Lane (of : Ring → List ℕ) (given : (cell slot : ℕ) → ℕ) : Type 0 where
  pub storing : (cell slot : ℕ) (q : Ring) → of (stored cell slot q) ≡ slice_set (of q) (behind q) (given cell slot)
  pub sending : (q : Ring) → of (sent q) ≡ slice_set (of q) q.head 0

pub cells_lane : Lane (λ q. q.cells) (λ cell slot. cell)
cells_lane = record { storing = λ cell slot q. refl; sending = λ q. refl }

pub stamps_lane : Lane (λ q. q.stamps) (λ cell slot. slot)
stamps_lane = record { storing = λ cell slot q. refl; sending = λ q. refl }

module _ {of : Ring → List ℕ} {given : (cell slot : ℕ) → ℕ} (v : Lane of given) (q : Ring) (deep : length (of q) ≡ D q) (h : q.head < D q) where
  -- what is stored comes last
  pub in_order_stored : (cell slot : ℕ) → q.count < D q → in_order (stored cell slot q) (of (stored cell slot q)) ≡ in_order q (of q) ++ (given cell slot ∷ [])
  in_order_stored cell slot l =
      ap (round (q.count + 1) q.head) (v.storing cell slot q ∙ ap (λ (d : ℕ). set (of q) ((q.head + q.count) % d) (given cell slot)) (sym deep))
      ∙ round_store q.count q.head (of q) (given cell slot) (omega arith) (omega arith)

  -- what is sent came first
  pub in_order_sent : 0 < q.count → q.count ≤ D q → in_order q (of q) ≡ slice_index (of q) q.head ∷ in_order (sent q) (of (sent q))
  in_order_sent p l =
      round_send q.count q.head (of q) p (omega arith) (omega arith)
      ∙ ap (λ (r : List ℕ). slice_index (of q) q.head ∷ r)
      (ap₂ (λ (d : ℕ) (r : List ℕ). round (q.count - 1) ((q.head + 1) % d) r) deep (sym (v.sending q)))

-- nothing waits in an empty queue
pub in_order_none : (q : Ring) (l : List ℕ) → q.count ≡ 0 → in_order q l ≡ []
unfolding round
in_order_none q l e = ap (λ (n : ℕ). round n q.head l) e
