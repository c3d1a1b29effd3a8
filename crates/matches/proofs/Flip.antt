-- One input's partner changed: when the result is a match, and what it weighs. Assumes nothing.
use Rattle.std.specs.Prelude.{◌≡◌, refl, ◌⊎◌, ◌≢◌, Bool, true, cond, ℕ, ◌+◌, ◌≤◌, ◌<◌, ltb, eqb}
use Rattle.std.proofs.Common.{sym, ap, ◌∙◌, inl, inr, arith, eq-eqb, ne_eqb}
use Rattle.masks.specs.Paper.{keep}
use Rattle.masks.specs.Tests.{eq_or_ne, keep_lt, keep_ge}
use Rattle.masks.specs.Sum.{sum_change}
use Rattle.matches.specs.Paper.{Match, total}
use Rattle.matches.proofs.Certificate.{in_w, out_w}

-- p with x sent to j; with j not below J, x is left unmatched
unfoldable pub put : (ℕ → ℕ) → ℕ → ℕ → ℕ → ℕ
put p x j i = cond (eqb i x) j (p i)

pub put_same : (p : ℕ → ℕ) (x j i : ℕ) → i ≡ x → put p x j i ≡ j
unfolding put
put_same p x j i e = rw (eq-eqb i x e)

pub put_other : (p : ℕ → ℕ) (x j i : ℕ) → i ≢ x → put p x j i ≡ p i
unfolding put
put_other p x j i h = rw (ne_eqb i x h)

module _ {E : ℕ → ℕ → Bool} {I J : ℕ} {p : ℕ → ℕ} (m : Match E I J p) (x : ℕ) where
  -- x is sent to an output that it requests and nobody has
  pub put_match : (j : ℕ) → E x j ≡ true → ((i : ℕ) → i < I → p i ≢ j) → Match E I J (put p x j)
  put_match j e free = record { asked = λ i li l. ask i li l (eq_or_ne i x); apart = λ i k li lk l q. apt i k li lk l q (eq_or_ne i x) (eq_or_ne k x) }
    where
      ask : (i : ℕ) → i < I → put p x j i < J → (i ≡ x) ⊎ (i ≢ x) → E i (put p x j i) ≡ true
      ask i li l (inl q) = rw (put_same p x j i q, q) e
      ask i li l (inr q) = rw (put_other p x j i q) (m.asked i li (omega (arith, put_other p x j i q)))

      apt : (i k : ℕ) → i < I → k < I → put p x j i < J → put p x j i ≡ put p x j k → (i ≡ x) ⊎ (i ≢ x) → (k ≡ x) ⊎ (k ≢ x) → i ≡ k
      apt i k li lk l q (inl a) (inl b) = a ∙ sym b
      apt i k li lk l q (inl a) (inr b) = absurd (free k lk (cc (put_same p x j i a, put_other p x j k b)))
      apt i k li lk l q (inr a) (inl b) = absurd (free i li (cc (put_other p x j i a, put_same p x j k b)))
      apt i k li lk l q (inr a) (inr b) = m.apart i k li lk (omega (arith, put_other p x j i a)) (cc (put_other p x j i a, put_other p x j k b))

  -- x is dropped
  pub drop_match : (j : ℕ) → J ≤ j → Match E I J (put p x j)
  drop_match j g = record { asked = λ i li l. ask i li l (eq_or_ne i x); apart = λ i k li lk l q. apt i k li lk l q (eq_or_ne i x) (eq_or_ne k x) }
    where
      ask : (i : ℕ) → i < I → put p x j i < J → (i ≡ x) ⊎ (i ≢ x) → E i (put p x j i) ≡ true
      ask i li l (inl q) = absurd (omega (arith, put_same p x j i q))
      ask i li l (inr q) = rw (put_other p x j i q) (m.asked i li (omega (arith, put_other p x j i q)))

      apt : (i k : ℕ) → i < I → k < I → put p x j i < J → put p x j i ≡ put p x j k → (i ≡ x) ⊎ (i ≢ x) → (k ≡ x) ⊎ (k ≢ x) → i ≡ k
      apt i k li lk l q (inl a) b = absurd (omega (arith, put_same p x j i a))
      apt i k li lk l q (inr a) (inl b) = absurd (omega (arith, put_same p x j k b))
      apt i k li lk l q (inr a) (inr b) = m.apart i k li lk (omega (arith, put_other p x j i a)) (cc (put_other p x j i a, put_other p x j k b))

-- what x brought goes, and what it brings now comes
pub put_total : (I J : ℕ) (g : ℕ → ℕ → ℕ) (p : ℕ → ℕ) (x j : ℕ) → x < I
    → total I J g (put p x j) + keep (ltb (p x) J) (g x (p x)) ≡ total I J g p + keep (ltb j J) (g x j)
put_total I J g p x j lx =
    let s = sum_change I (λ i. keep (ltb (put p x j i) J) (g i (put p x j i))) (λ i. keep (ltb (p i) J) (g i (p i))) x lx
    (λ i l h. rw (put_other p x j i h)) in
    rw (put_same p x j x refl) at s

module _ (I J : ℕ) (g : ℕ → ℕ → ℕ) (p : ℕ → ℕ) (x j : ℕ) (lx : x < I) where
  -- x was unmatched, and is matched to j
  pub total_join : J ≤ p x → j < J → total I J g (put p x j) ≡ total I J g p + g x j
  total_join h lj = omega (arith, put_total I J g p x j lx, keep_ge (p x) J (g x (p x)) h, keep_lt j J (g x j) lj)

  -- x was matched, and moves to j
  pub total_move : p x < J → j < J → total I J g (put p x j) + g x (p x) ≡ total I J g p + g x j
  total_move h lj = omega (arith, put_total I J g p x j lx, keep_lt (p x) J (g x (p x)) h, keep_lt j J (g x j) lj)

  -- x was matched, and is dropped
  pub total_drop : p x < J → J ≤ j → total I J g (put p x j) + g x (p x) ≡ total I J g p
  total_drop h gj = omega (arith, put_total I J g p x j lx, keep_lt (p x) J (g x (p x)) h, keep_ge j J (g x j) gj)

-- the same of the two parts of the weight
module _ (I J : ℕ) (w v p : ℕ → ℕ) (x j : ℕ) (lx : x < I) (lj : j < J) where
  pub in_join : J ≤ p x → in_w I J w (put p x j) ≡ in_w I J w p + w x
  in_join h = total_join I J (λ i k. w i) p x j lx h lj

  pub out_join : J ≤ p x → out_w I J v (put p x j) ≡ out_w I J v p + v j
  out_join h = total_join I J (λ i k. v k) p x j lx h lj

  pub in_move : p x < J → in_w I J w (put p x j) ≡ in_w I J w p
  in_move h = omega (arith, total_move I J (λ i k. w i) p x j lx h lj)

  pub out_move : p x < J → out_w I J v (put p x j) + v (p x) ≡ out_w I J v p + v j
  out_move h = total_move I J (λ i k. v k) p x j lx h lj

-- ---- one step of an alternating path: x, which is unmatched, takes j from y

abbrev pub shift : ℕ → (ℕ → ℕ) → ℕ → ℕ → ℕ → ℕ → ℕ
shift J q x j y = put (put q y J) x j

module _ {E : ℕ → ℕ → Bool} {I J : ℕ} {q : ℕ → ℕ} (m : Match E I J q) (x j y : ℕ)
    (lx : x < I) (lj : j < J) (ly : y < I) (hx : J ≤ q x) (qy : q y ≡ j) where
  apart_xy : x ≢ y
  apart_xy e = absurd (omega (arith, ap q e))

  gone : put q y J x ≡ q x
  gone = put_other q y J x apart_xy

  pub shift_x : shift J q x j y x ≡ j
  shift_x = put_same (put q y J) x j x refl

  pub shift_y : shift J q x j y y ≡ J
  shift_y = put_other (put q y J) x j y (λ e. apart_xy (sym e)) ∙ put_same q y J y refl

  pub shift_other : (i : ℕ) → i ≢ x → i ≢ y → shift J q x j y i ≡ q i
  shift_other i a b = put_other (put q y J) x j i a ∙ put_other q y J i b

  pub shift_match : E x j ≡ true → Match E I J (shift J q x j y)
  shift_match e = put_match (drop_match m y J (omega arith)) x j e (λ i li. free i li (eq_or_ne i y))
    where
      free : (i : ℕ) → i < I → (i ≡ y) ⊎ (i ≢ y) → put q y J i ≢ j
      free i li (inl a) t = absurd (omega (arith, put_same q y J i a))
      free i li (inr a) t =
          let k = put_other q y J i a in
          absurd (omega (arith, m.apart i y li ly (omega arith) (cc)))

  -- of any worth g: y's part goes and x's comes
  pub shift_total : (g : ℕ → ℕ → ℕ) → total I J g (shift J q x j y) + g y j ≡ total I J g q + g x j
  shift_total g = omega (arith, total_join I J g (put q y J) x j lx (omega (arith, gone)) lj, total_drop I J g q y J ly (omega arith) (omega arith), ap (g y) qy)

  pub shift_in : (w : ℕ → ℕ) → in_w I J w (shift J q x j y) + w y ≡ in_w I J w q + w x
  shift_in w = shift_total (λ i k. w i)

  pub shift_out : (v : ℕ → ℕ) → out_w I J v (shift J q x j y) ≡ out_w I J v q
  shift_out v = omega (arith, shift_total (λ i k. v k))
