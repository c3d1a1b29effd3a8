-- A stretch of a list: the k entries from place a on, taken out and put back. Assumes nothing.
use Rattle.std.specs.Prelude.{◌≡◌, ℕ, ◌+◌, ◌-◌, ◌*◌, ◌<◌, ◌≤◌, ◌⊎◌, List, ◌++◌, length, take, drop}
use Rattle.std.proofs.Common.{sym, ap, ◌∙◌, inl, inr, mul-le-mul_right, arith, length-take, length-drop, length-take-le, get_or-take, get_or-drop, ext_get_or, take_at, drop_at}
use borrow.Rule.Slice.PartMut.{mid_of, post_of, put_mid, same_len_mid, take_put, drop_put}
use Rattle.matches.specs.Paper.{at}

-- ---- where a queue and its stretch lie

pub index_in : (m n i j : ℕ) → i < m → j < n → i * n + j < m * n
index_in m n i j p q = omega (arith, mul-le-mul_right n p)

pub stretch_in : (u d k : ℕ) → k < u → k * d + d ≤ u * d
stretch_in u d k p = omega (arith, mul-le-mul_right d p)

-- two queues' stretches lie apart
pub apart : (d j k : ℕ) → j < k → j * d + d ≤ k * d
apart d j k p = stretch_in k d j p

-- ---- one stretch

pub mid_length : (a k : ℕ) (xs : List ℕ) → a + k ≤ length xs → length (mid_of a k xs) ≡ k
mid_length a k xs h = length-take-le k (drop a xs) (let e = length-drop a xs in omega arith)

pub mid_at : (a k : ℕ) (xs : List ℕ) (p : ℕ) → p < k → at (mid_of a k xs) p ≡ at xs (a + p)
mid_at a k xs p l = get_or-take k (drop a xs) p 0 l ∙ get_or-drop a xs p 0

pub put_length : (a k : ℕ) (xs ys : List ℕ) → a + k ≤ length xs → length ys ≡ k → length (put_mid a k xs ys) ≡ length xs
put_length a k xs ys h e = same_len_mid a k xs ys (e ∙ sym (mid_length a k xs h))

pub mid_put : (a k : ℕ) (xs ys : List ℕ) → a + k ≤ length xs → length ys ≡ k → mid_of a k (put_mid a k xs ys) ≡ ys
mid_put a k xs ys h e =
    ap (take k) (drop_at (take a xs) (ys ++ post_of a k xs) a (length-take-le a xs (omega arith))) ∙ take_at ys (post_of a k xs) k e

-- ---- two stretches that lie apart

-- the same entries, the same stretch
mid_ext : (b k : ℕ) (xs ys : List ℕ) → length xs ≡ length ys → ((p : ℕ) → b ≤ p → p < b + k → at xs p ≡ at ys p) → mid_of b k xs ≡ mid_of b k ys
mid_ext b k xs ys e h =
    ext_get_or 0 (mid_of b k xs) (mid_of b k ys) long
    (λ p l. let q : p < k = omega (arith, length-take k (drop b xs)) in mid_at b k xs p q ∙ h (b + p) (omega arith) (omega arith) ∙ sym (mid_at b k ys p q))
  where
    long : length (mid_of b k xs) ≡ length (mid_of b k ys)
    long = omega (arith, length-take k (drop b xs), length-take k (drop b ys), length-drop b xs, length-drop b ys)

pub mid_other : (a b k : ℕ) (xs ys : List ℕ) → a + k ≤ length xs → length ys ≡ k → (b + k ≤ a) ⊎ (a + k ≤ b) → mid_of b k (put_mid a k xs ys) ≡ mid_of b k xs
mid_other a b k xs ys h e (inl g) =
    mid_ext b k (put_mid a k xs ys) xs (put_length a k xs ys h e)
    (λ p _ l. sym (get_or-take a (put_mid a k xs ys) p 0 (omega arith)) ∙ ap (λ (t : List ℕ). at t p) (take_put a k xs ys (omega arith)) ∙ get_or-take a xs p 0 (omega arith))
mid_other a b k xs ys h e (inr g) = mid_ext b k (put_mid a k xs ys) xs (put_length a k xs ys h e) (λ p l _. behind p (omega arith))
  where
    same : drop (a + k) (put_mid a k xs ys) ≡ drop (a + k) xs
    same =
        let w : (a + k) - a ≡ k = omega arith in
        rw w at (drop_put a (a + k) xs ys (omega arith) h (e ∙ sym w))

    behind : (p : ℕ) → a + k ≤ p → at (put_mid a k xs ys) p ≡ at xs p
    behind p l =
        let w : (a + k) + (p - (a + k)) ≡ p = omega arith in
        ap (at (put_mid a k xs ys)) (sym w)
        ∙ sym (get_or-drop (a + k) (put_mid a k xs ys) (p - (a + k)) 0)
        ∙ ap (λ (t : List ℕ). at t (p - (a + k))) same
        ∙ get_or-drop (a + k) xs (p - (a + k)) 0
        ∙ ap (at xs) w
