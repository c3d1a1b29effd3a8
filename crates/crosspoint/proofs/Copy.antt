-- A list whose elements were converted one by one, and numbers that a field can hold. Assumes nothing.
use Rattle.std.specs.Prelude.{◌≡◌, refl, ◌⊎◌, ◌≢◌, true, List, [], ◌∷◌, map, ℕ, ◌+◌, ◌<◌, length, get_or, set, ltb}
use Rattle.std.proofs.Common.{sym, ◌∙◌, inl, inr, arith, ltb-true, get_or-set_same, get_or-set_other}
use Rattle.std.proofs.lemmas.List.{same_lists, get_or-map, length-map}
use Rattle.masks.specs.Tests.{every_at, eq_or_ne}
use Rattle.matches.specs.Paper.{at}
use Rattle.crosspoint.specs.Paper.{holdable}

-- a relation that holds of the places below n holds of one more, once the element there is put
pub each_one : {A B : Type 0} (P : A → B → Type 0) (xs : List A) (ys : List B) (n : ℕ) (v : B) → n < length ys
    → ((k : ℕ) (d : A) (e : B) → k < n → P (get_or xs k d) (get_or ys k e)) → ((d : A) → P (get_or xs n d) v)
    → (k : ℕ) (d : A) (e : B) → k < n + 1 → P (get_or xs k d) (get_or (set ys n v) k e)
each_one {A} P xs ys n v l h p k d e m = go (eq_or_ne k n)
  where
    go : (k ≡ n) ⊎ (k ≢ n) → P (get_or xs k d) (get_or (set ys n v) k e)
    go (inl q) = rw q (rw (get_or-set_same ys n v e l) (p d))
    go (inr q) = rw (get_or-set_other ys n k v e q) (h k d e (omega (arith, q, m)))

-- where the relation is an equation, the second list is the first one converted
pub each_map : {A B : Type 0} (f : A → B) (a : A) (xs : List A) (ys : List B) → length ys ≡ length xs → ((k : ℕ) (d : A) (e : B) → k < length xs → get_or ys k e ≡ f (get_or xs k d)) → ys ≡ map f xs
each_map f a xs ys l h =
    same_lists ys (map f xs) (l ∙ sym (length-map xs f)) (λ k d m. let w : k < length xs = omega (arith, l, m) in h k a d w ∙ sym (get_or-map f xs k a d w))

-- .. or the first one
pub each_same : {A : Type 0} (xs ys : List A) → length ys ≡ length xs → ((k : ℕ) (d e : A) → k < length xs → get_or ys k e ≡ get_or xs k d) → ys ≡ xs
each_same xs ys l h = same_lists ys xs l (λ k d m. h k d d (omega (arith, l, m)))

-- numbers that a field can hold
pub holds_at : (l : List ℕ) → holdable l ≡ true → (k : ℕ) → k < 1024 → get_or l k 0 < 65536
unfolding holdable
holds_at l e k h = ltb-true _ _ (every_at 1024 (λ i. ltb (at l i) 65536) e k h)

-- the only element of a list
pub set_only : (l : List ℕ) (v : ℕ) → length l ≡ 1 → set l 0 v ≡ v ∷ []
set_only [] v h = absurd (omega (arith, h))
set_only (x ∷ []) v h = refl
set_only (x ∷ y ∷ l) v h = absurd (omega (arith, h))
