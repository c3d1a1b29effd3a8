-- Lists of one length, joined one after another: how long they are together, where each stands, and a stretch cut into them. Assumes nothing.
use Rattle.std.specs.Prelude.{◌≡◌, refl, List, ◌++◌, ℕ, zero, suc, ◌+◌, ◌*◌, ◌≤◌, ◌<◌, length, take, drop}
use Rattle.std.proofs.Common.{sym, ap, ap₂, ◌∙◌, subst, append_assoc, append-nil, suc-mul, zero-mul, mul-le-mul_right, add-one, arith, length-append}
use Rattle.slotlog.specs.Paper.{joined}
use Rattle.slotlog.specs.Parts.{Stands, stands_left, stands_right, part_join}

-- of n parts of length w, the one numbered k ends at or before the end
pub part_inside : (k n w : ℕ) → k < n → k * w + w ≤ n * w
part_inside k n w h = omega (arith, mul-le-mul_right w h)

pub length_joined : (n w : ℕ) (f : ℕ → List ℕ) → ((i : ℕ) → length (f i) ≡ w) → length (joined n f) ≡ n * w
unfolding joined
length_joined zero w f h = sym (zero-mul w)
length_joined (suc n) w f h = omega (arith, length-append (f 0) (joined n (λ k. f (suc k))), h 0, length_joined n w (λ k. f (suc k)) (λ i. h (suc i)), suc-mul n w)

pub joined_cong : (n : ℕ) (f g : ℕ → List ℕ) → ((i : ℕ) → i < n → f i ≡ g i) → joined n f ≡ joined n g
unfolding joined
joined_cong zero f g h = refl
joined_cong (suc n) f g h = ap₂ ◌++◌ (h 0 (omega arith)) (joined_cong n (λ k. f (suc k)) (λ k. g (suc k)) (λ i l. h (suc i) (omega arith)))

joined_end : (n : ℕ) (f : ℕ → List ℕ) → joined (suc n) f ≡ joined n f ++ f n
unfolding joined
joined_end zero f = append-nil (f 0)
joined_end (suc n) f = ap (λ (l : List ℕ). f 0 ++ l) (joined_end n (λ k. f (suc k))) ∙ sym (append_assoc (f 0) (joined n (λ k. f (suc k))) (f (suc n)))

-- one more at the end, in the form of a loop's counter
pub joined_step : (n : ℕ) (f : ℕ → List ℕ) → joined (n + 1) f ≡ joined n f ++ f n
joined_step n f = ap (λ (k : ℕ). joined k f) (add-one n) ∙ joined_end n f

-- list i of n, each w long, stands i · w behind the first
pub stands_joined : (n w : ℕ) (f : ℕ → List ℕ) {log : List ℕ} {p : ℕ} → ((i : ℕ) → length (f i) ≡ w) → Stands (joined n f) log p
    → (i q : ℕ) → i < n → q ≡ p + i * w → Stands (f i) log q
unfolding joined
stands_joined zero w f h s i q l e = absurd (omega arith)
stands_joined (suc n) w f {log} {p} h s zero q l e = let z : p ≡ q = omega (arith, zero-mul w) in subst (Stands (f 0) log) z (stands_left (f 0) (joined n (λ k. f (suc k))) s)
stands_joined (suc n) w f {log} {p} h s (suc i) q l e =
    stands_joined n w (λ k. f (suc k)) (λ i. h (suc i)) (stands_right (f 0) (joined n (λ k. f (suc k))) w (h 0) s) i q (omega arith) (omega (arith, suc-mul i w))

-- a stretch of n · w entries, cut into n parts, is these parts joined
pub joined_parts : (n w : ℕ) (f : ℕ → List ℕ) (log : List ℕ) (p : ℕ) → ((i : ℕ) → i < n → f i ≡ take w (drop (p + i * w) log)) → joined n f ≡ take (n * w) (drop p log)
unfolding joined
joined_parts zero w f log p h = ap (λ (m : ℕ). take m (drop p log)) (sym (zero-mul w))
joined_parts (suc n) w f log p h =
    ap₂ ◌++◌ (h 0 (omega arith) ∙ ap (λ (q : ℕ). take w (drop q log)) first) (joined_parts n w (λ k. f (suc k)) log (p + w) (λ i l. h (suc i) (omega arith) ∙ ap (λ (q : ℕ). take w (drop q log)) (next i)))
    ∙ part_join log p w (n * w)
    ∙ ap (λ (m : ℕ). take m (drop p log)) all
  where
    first : p + 0 * w ≡ p
    first = omega (arith, zero-mul w)

    next : (i : ℕ) → p + suc i * w ≡ p + w + i * w
    next i = omega (arith, suc-mul i w)

    all : w + n * w ≡ suc n * w
    all = omega (arith, suc-mul n w)
