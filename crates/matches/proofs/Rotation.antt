-- From an unmatched input u of a match p: a match whose inputs weigh more, or a closed set that holds u.
-- The set grows from u by the owners of what its members request. For each member x there is a match, the detour to x, that matches u, leaves x out, and has the outputs of p.
-- Assumes nothing.
use Rattle.std.specs.Prelude.{◌≡◌, refl, ◌⊎◌, ◌≢◌, Bool, true, false, not, ◌||◌, ℕ, zero, suc, ◌+◌, ◌≤◌, ◌<◌, eqb}
use Rattle.std.proofs.Common.{sym, ap, ◌∙◌, inl, inr, arith, le_refl, eqb-true, eq-eqb, ne_eqb}
use Rattle.std.proofs.lemmas.Bool.{eqb-false}
use Rattle.masks.specs.Paper.{keep, sum}
use Rattle.masks.specs.Tests.{cases, lt_or_ge, eq_or_ne, clash, seek}
use Rattle.masks.specs.Sum.{sum_change}
use Rattle.matches.specs.Paper.{Match}
use Rattle.matches.proofs.Owner.{owner, owner_spec}
use Rattle.matches.proofs.Certificate.{in_w, out_w, Closed, SetFor}
use Rattle.matches.proofs.Flip.{put, put_match, in_join, out_join, shift, shift_x, shift_y, shift_other, shift_match, shift_in, shift_out}

-- ---- a set with one more member

unfoldable pub add : (ℕ → Bool) → ℕ → ℕ → Bool
add S y i = S i || eqb i y

pub add_old : (S : ℕ → Bool) (y i : ℕ) → S i ≡ true → add S y i ≡ true
unfolding add
add_old S y i e = rw e

pub add_new : (S : ℕ → Bool) (y : ℕ) → add S y y ≡ true
unfolding add
add_new S y = go (S y)
  where
    go : (t : Bool) → (t || eqb y y) ≡ true
    go true = refl
    go false = eq-eqb y y refl

pub add_true : (S : ℕ → Bool) (y i : ℕ) → add S y i ≡ true → (S i ≡ true) ⊎ (i ≡ y)
unfolding add
add_true S y i = go (S i)
  where
    go : (t : Bool) → (t || eqb i y) ≡ true → (t ≡ true) ⊎ (i ≡ y)
    go true e = inl refl
    go false e = inr (eqb-true i y e)

pub add_false : (S : ℕ → Bool) (y i : ℕ) → add S y i ≡ false → (S i ≡ false) × (i ≢ y)
unfolding add
add_false S y i = go (S i)
  where
    go : (t : Bool) → (t || eqb i y) ≡ false → (t ≡ false) × (i ≢ y)
    go true e = clash {b = true} refl e
    go false e = (refl, eqb-false i y e)

pub add_other : (S : ℕ → Bool) (y i : ℕ) → i ≢ y → add S y i ≡ S i
unfolding add
add_other S y i h = go (S i)
  where
    go : (t : Bool) → (t || eqb i y) ≡ t
    go true = refl
    go false = ne_eqb i y h

-- how many numbers below n are no members
abbrev pub outside : ℕ → (ℕ → Bool) → ℕ
outside n S = sum n (λ i. keep (not (S i)) 1)

pub outside_add : (n : ℕ) (S : ℕ → Bool) (y : ℕ) → y < n → S y ≡ false → outside n (add S y) + 1 ≡ outside n S
outside_add n S y l e =
    let s = sum_change n (λ i. keep (not (add S y i)) 1) (λ i. keep (not (S i)) 1) y l (λ i li h. rw (add_other S y i h)) in
    omega (arith, rw (add_new S y, e) at s)

-- ---- what is looked for, and what the set keeps

-- a match whose inputs are worth more, and its outputs no less
pub record Better (E : ℕ → ℕ → Bool) (I J : ℕ) (p w v : ℕ → ℕ) : Type 0 where
  pub next : ℕ → ℕ
  pub match : Match E I J next
  pub more : in_w I J w p < in_w I J w next
  pub kept : out_w I J v p ≤ out_w I J v next

-- the detour to x, over members of S
pub record Detour (E : ℕ → ℕ → Bool) (I J : ℕ) (p w v : ℕ → ℕ) (u : ℕ) (S : ℕ → Bool) (x : ℕ) : Type 0 where
  pub way : ℕ → ℕ
  pub match : Match E I J way
  pub hole : J ≤ way x
  pub rest : (y : ℕ) → y < I → S y ≡ false → way y ≡ p y
  pub used : (i : ℕ) → i < I → way i < J → (k : ℕ) × (k < I) × (p k ≡ way i)
  pub ins : in_w I J w way + w x ≡ in_w I J w p + w u
  pub outs : out_w I J v way ≡ out_w I J v p

pub record Grown (E : ℕ → ℕ → Bool) (I J : ℕ) (p w v : ℕ → ℕ) (u : ℕ) (S : ℕ → Bool) : Type 0 where
  pub root : S u ≡ true
  pub above : (x : ℕ) → x < I → S x ≡ true → w u ≤ w x
  pub detour : (x : ℕ) → x < I → S x ≡ true → Detour E I J p w v u S x

-- an output that a member requests is free, or owned outside; or there is none such
abbrev pub Open : (ℕ → ℕ → Bool) → ℕ → (ℕ → ℕ) → (ℕ → Bool) → ℕ → ℕ → Type 0
Open E I p S x j = (S x ≡ true) × (E x j ≡ true) × (((i : ℕ) → i < I → p i ≢ j) ⊎ ((y : ℕ) × (y < I) × (p y ≡ j) × (S y ≡ false)))

abbrev pub Fine : (ℕ → ℕ → Bool) → ℕ → (ℕ → ℕ) → (ℕ → Bool) → ℕ → ℕ → Type 0
Fine E I p S x j = S x ≡ true → E x j ≡ true → (y : ℕ) × (y < I) × (p y ≡ j) × (S y ≡ true)

open_or_fine : (E : ℕ → ℕ → Bool) (I : ℕ) (p : ℕ → ℕ) (S : ℕ → Bool) (x j : ℕ) → Open E I p S x j ⊎ Fine E I p S x j
open_or_fine E I p S x j = go (cases (S x)) (cases (E x j)) (owner_spec p I j) (cases (S (owner p I j)))
  where
    go : (S x ≡ true) ⊎ (S x ≡ false) → (E x j ≡ true) ⊎ (E x j ≡ false)
        → ((owner p I j < I) × (p (owner p I j) ≡ j)) ⊎ ((owner p I j ≡ I) × ((i : ℕ) → i < I → p i ≢ j))
        → (S (owner p I j) ≡ true) ⊎ (S (owner p I j) ≡ false) → Open E I p S x j ⊎ Fine E I p S x j
    go (inr s) e o t = inr (λ s' e'. clash s' s)
    go (inl s) (inr e) o t = inr (λ s' e'. clash e' e)
    go (inl s) (inl e) (inr o) t = inl (s, e, inl o.1)
    go (inl s) (inl e) (inl o) (inl t) = inr (λ s' e'. (owner p I j, o.0, o.1, t))
    go (inl s) (inl e) (inl o) (inr t) = inl (s, e, inr (owner p I j, o.0, o.1, t))

-- the whole set
abbrev pub Look : (ℕ → ℕ → Bool) → ℕ → ℕ → (ℕ → ℕ) → (ℕ → Bool) → Type 0
Look E I J p S = ((x : ℕ) × (x < I) × ((j : ℕ) × (j < J) × Open E I p S x j)) ⊎ ((x : ℕ) → x < I → (j : ℕ) → j < J → Fine E I p S x j)

pub look : (E : ℕ → ℕ → Bool) (I J : ℕ) (p : ℕ → ℕ) (S : ℕ → Bool) → Look E I J p S
look E I J p S =
    seek I (λ x. (j : ℕ) × (j < J) × Open E I p S x j) (λ x. (j : ℕ) → j < J → Fine E I p S x j)
    (λ x lx. seek J (Open E I p S x) (Fine E I p S x) (λ j lj. open_or_fine E I p S x j))

module _ {E : ℕ → ℕ → Bool} {I J : ℕ} {p w v : ℕ → ℕ} (m : Match E I J p) (u : ℕ) where
  detour_more : (S S' : ℕ → Bool) → ((i : ℕ) → S' i ≡ false → S i ≡ false) → (x : ℕ) → Detour E I J p w v u S x → Detour E I J p w v u S' x
  detour_more S S' h x d = record {
    way = d.way;
    match = d.match;
    hole = d.hole;
    rest = λ y ly s. d.rest y ly (h y s);
    used = d.used;
    ins = d.ins;
    outs = d.outs;
  }

  detour_step : (S : ℕ → Bool) (x j y : ℕ) → x < I → S x ≡ true → Detour E I J p w v u S x → j < J → E x j ≡ true
      → y < I → p y ≡ j → S y ≡ false → Detour E I J p w v u (add S y) y
  detour_step S x j y lx s d lj e ly o t = record {
    way = q';
    match = shift_match d.match x j y lx lj ly d.hole qy e;
    hole = omega (arith, sy);
    rest = λ i li f. (let k = add_false S y i f in so i (λ a. clash (ap S a ∙ s) k.0) k.1 ∙ d.rest i li k.0);
    used = λ i li l. using' i li l (eq_or_ne i x) (eq_or_ne i y);
    ins = omega (arith, shift_in d.match x j y lx lj ly d.hole qy w, d.ins);
    outs = omega (arith, shift_out d.match x j y lx lj ly d.hole qy v, d.outs);
  }
    where
      q' : ℕ → ℕ
      q' = shift J d.way x j y

      qy : d.way y ≡ j
      qy = d.rest y ly t ∙ o

      sy : q' y ≡ J
      sy = shift_y d.match x j y lx lj ly d.hole qy

      sx : q' x ≡ j
      sx = shift_x d.match x j y lx lj ly d.hole qy

      so : (i : ℕ) → i ≢ x → i ≢ y → q' i ≡ d.way i
      so = shift_other d.match x j y lx lj ly d.hole qy

      using' : (i : ℕ) → i < I → q' i < J → (i ≡ x) ⊎ (i ≢ x) → (i ≡ y) ⊎ (i ≢ y) → (k : ℕ) × (k < I) × (p k ≡ q' i)
      using' i li l (inl a) b = (y, ly, o ∙ sym (ap q' a ∙ sx))
      using' i li l (inr a) (inl b) = absurd (omega (arith, sy, ap q' b))
      using' i li l (inr a) (inr b) = (let k = d.used i li (omega (arith, so i a b)) in (k.0, k.1, k.2 ∙ sym (so i a b)))

  grown_step : (S : ℕ → Bool) (x j y : ℕ) → Grown E I J p w v u S → x < I → S x ≡ true → j < J → E x j ≡ true
      → y < I → p y ≡ j → S y ≡ false → w u ≤ w y → Grown E I J p w v u (add S y)
  grown_step S x j y g lx s lj e ly o t h = record {
    root = add_old S y u g.root;
    above = λ i li a. up i li (add_true S y i a);
    detour = λ i li a. road i li (add_true S y i a);
  }
    where
      up : (i : ℕ) → i < I → (S i ≡ true) ⊎ (i ≡ y) → w u ≤ w i
      up i li (inl a) = g.above i li a
      up i li (inr a) = rw a h

      road : (i : ℕ) → i < I → (S i ≡ true) ⊎ (i ≡ y) → Detour E I J p w v u (add S y) i
      road i li (inl a) = detour_more S (add S y) (λ k f. (add_false S y k f).0) i (g.detour i li a)
      road i li (inr a) = rw a (detour_step S x j y lx s (g.detour x lx s) lj e ly o t)

  -- the detour to x, and on to the free output j
  better_free : (S : ℕ → Bool) (x j : ℕ) → 1 ≤ w u → Detour E I J p w v u S x → x < I → j < J → E x j ≡ true → ((i : ℕ) → i < I → p i ≢ j) → Better E I J p w v
  better_free S x j pos d lx lj e free = record {
    next = put d.way x j;
    match = put_match d.match x j e (λ i li a. (let k = d.used i li (omega arith) in free k.0 k.1 (k.2 ∙ a)));
    more = omega (arith, in_join I J w v d.way x j lx lj d.hole, d.ins);
    kept = omega (arith, out_join I J w v d.way x j lx lj d.hole, d.outs);
  }

  -- the detour to y, which is worth less than u and stays out
  better_drop : (S : ℕ → Bool) (y : ℕ) → w y < w u → Detour E I J p w v u S y → Better E I J p w v
  better_drop S y h d = record {
    next = d.way;
    match = d.match;
    more = omega (arith, d.ins);
    kept = omega (arith, d.outs);
  }

  closed_of : (S : ℕ → Bool) → Grown E I J p w v u S → ((x : ℕ) → x < I → (j : ℕ) → j < J → Fine E I p S x j) → Closed E I J p w u S
  closed_of S g f = record { root = g.root; above = g.above; shut = λ x j lx lj s e. f x lx j lj s e }

  grow_step : (S : ℕ → Bool) → 1 ≤ w u → Grown E I J p w v u S → Look E I J p S
      → (Better E I J p w v ⊎ SetFor E I J p w u) ⊎ ((y : ℕ) × (y < I) × (S y ≡ false) × Grown E I J p w v u (add S y))
  grow_step S pos g (inr f) = inl (inr (S, closed_of S g f))
  grow_step S pos g (inl (x, lx, (j, lj, (s, e, inl free)))) = inl (inl (better_free S x j pos (g.detour x lx s) lx lj e free))
  grow_step S pos g (inl (x, lx, (j, lj, (s, e, inr (y, ly, o, t))))) = go (lt_or_ge (w y) (w u))
    where
      go : (w y < w u) ⊎ (w u ≤ w y)
          → (Better E I J p w v ⊎ SetFor E I J p w u) ⊎ ((y : ℕ) × (y < I) × (S y ≡ false) × Grown E I J p w v u (add S y))
      go (inl h) = inl (inl (better_drop (add S y) y h (detour_step S x j y lx s (g.detour x lx s) lj e ly o t)))
      go (inr h) = inr (y, ly, t, grown_step S x j y g lx s lj e ly o t h)

  grow : (n : ℕ) (S : ℕ → Bool) → 1 ≤ w u → Grown E I J p w v u S → outside I S ≤ n → Better E I J p w v ⊎ SetFor E I J p w u
  grow zero S pos g h = go (grow_step S pos g (look E I J p S))
    where
      go : (Better E I J p w v ⊎ SetFor E I J p w u) ⊎ ((y : ℕ) × (y < I) × (S y ≡ false) × Grown E I J p w v u (add S y)) → Better E I J p w v ⊎ SetFor E I J p w u
      go (inl r) = r
      go (inr (y, ly, t, g')) = absurd (omega (arith, outside_add I S y ly t))
  grow (suc n) S pos g h = go (λ S'. grow n S' pos) (grow_step S pos g (look E I J p S))
    where
      go : ((S' : ℕ → Bool) → Grown E I J p w v u S' → outside I S' ≤ n → Better E I J p w v ⊎ SetFor E I J p w u)
          → (Better E I J p w v ⊎ SetFor E I J p w u) ⊎ ((y : ℕ) × (y < I) × (S y ≡ false) × Grown E I J p w v u (add S y)) → Better E I J p w v ⊎ SetFor E I J p w u
      go r (inl k) = k
      go r (inr (y, ly, t, g')) = r (add S y) g' (omega (arith, outside_add I S y ly t))

  start : J ≤ p u → Grown E I J p w v u (λ i. eqb i u)
  start free = record {
    root = eq-eqb u u refl;
    above = λ x lx s. rw (eqb-true x u s) (le_refl (w u));
    detour = λ x lx s. rw (eqb-true x u s) record {
      way = p;
      match = m;
      hole = free;
      rest = λ y ly t. refl;
      used = λ i li l. (i, li, refl);
      ins = refl;
      outs = refl;
    };
  }

  -- a match that is worth more, or a closed set that holds u
  pub augment : J ≤ p u → 1 ≤ w u → Better E I J p w v ⊎ SetFor E I J p w u
  augment free pos = grow (outside I (λ i. eqb i u)) (λ i. eqb i u) pos (start free) (le_refl _)
