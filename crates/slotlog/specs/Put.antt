-- Bytes put one after another into a buffer. Assumes nothing.
use Rattle.std.specs.Prelude.{◌≡◌, refl, List, [], ◌∷◌, ◌++◌, ℕ, suc, ◌+◌, ◌*◌, ◌≤◌, length, set, drop}
use Rattle.std.proofs.Common.{sym, ap, ◌∙◌, add-zero, zero-add, arith, append_assoc, drop-drop, take}
use Rattle.std.proofs.lemmas.List.Edits.{sets, sets-eq}
use borrow.Rule.Slice.PartMut.{put_mid}
use Rattle.slotlog.specs.Paper.{bytes, joined, trailer_bytes}
use Rattle.slotlog.specs.Joined.{length_joined, joined_step}

-- two lists one after the other
sets_append : (b : List ℕ) (p : ℕ) (xs ys : List ℕ) → sets b p (xs ++ ys) ≡ sets (sets b p xs) (p + length xs) ys
sets_append b p [] ys = ap (λ (k : ℕ). sets b k ys) (sym (add-zero p))
sets_append b p (x ∷ xs) ys =
    let e : suc p + length xs ≡ p + suc (length xs) = omega arith in
    sets_append (set b p x) (suc p) xs ys ∙ ap (λ (k : ℕ). sets (sets (set b p x) (suc p) xs) k ys) e

-- c is the buffer b with xs from place p on, and else as it was
pub record Put (b : List ℕ) (p : ℕ) (xs c : List ℕ) : Type 0 where
  pub is : c ≡ sets b p xs

pub put_as : {b c xs ys : List ℕ} {p : ℕ} → xs ≡ ys → Put b p xs c → Put b p ys c
put_as e h = rw e at h

-- ys where the n bytes xs end: used at every level, from the bytes of a number to the records
pub put_on : {b c d xs ys : List ℕ} {p q n : ℕ} → Put b p xs c → Put c q ys d → length xs ≡ n → q ≡ p + n → Put b p (xs ++ ys) d
put_on {b} {c} {d} {xs} {ys} {p} {q} {n} e f l h =
    let k : q ≡ p + length xs = omega arith in
    record { is = f.is ∙ ap (λ (k : ℕ). sets c k ys) k ∙ ap (λ (l : List ℕ). sets l (p + length xs) ys) e.is ∙ sym (sets_append b p xs ys) }

-- from the front on, within the buffer: what is behind stays as it is
pub put_front : {b xs c : List ℕ} → Put b 0 xs c → length xs ≤ length b → c ≡ xs ++ drop (length xs) b
put_front {b} {xs} e h = e.is ∙ sets-eq xs b 0 (omega arith) ∙ ap (λ (k : ℕ). xs ++ drop k b) (zero-add (length xs))

-- a part copied over
pub put_part : (b : List ℕ) (p k : ℕ) (xs ys : List ℕ) → p + length xs ≤ length b → k ≡ length xs → ys ≡ xs → Put b p xs (put_mid p k b ys)
put_part b p k xs ys h e f = record { is = rw (e, f) (ap (λ (r : List ℕ). take p b ++ (xs ++ r)) (drop-drop (length xs) p b) ∙ sym (append_assoc (take p b) xs (drop (p + length xs) b)) ∙ sym (sets-eq xs b p h)) }

-- a loop that puts parts of one length r: none yet, and one part more
pub put_none : (b : List ℕ) (p : ℕ) (f : ℕ → List ℕ) → Put b p (joined 0 f) b
unfolding joined
put_none b p f = record { is = refl }

pub put_next : {b c d : List ℕ} {p q n : ℕ} (r : ℕ) (f : ℕ → List ℕ) → ((i : ℕ) → length (f i) ≡ r) → Put b p (joined n f) c → Put c q (f n) d → q ≡ p + n * r → Put b p (joined (n + 1) f) d
put_next {n = n} r f h e g l = rw (joined_step n f) (put_on e g (length_joined n r f h) l)

-- the trailer, field by field
pub put_trailer : (back M N D count : ℕ) {b b₁ b₂ b₃ b₄ b₅ b₆ : List ℕ} {p : ℕ} → Put b p (bytes 4 back) b₁ → Put b₁ (p + 4) (bytes 2 M) b₂ → Put b₂ (p + 6) (bytes 2 N) b₃
    → Put b₃ (p + 8) (bytes 2 D) b₄ → Put b₄ (p + 10) (bytes 4 count) b₅ → Put b₅ (p + 14) (76 ∷ 80 ∷ []) b₆ → Put b p (trailer_bytes back M N D count) b₆
unfolding trailer_bytes bytes
put_trailer back M N D count f g h i j k = put_on (put_on (put_on (put_on (put_on f g refl refl) h refl refl) i refl refl) j refl refl) k refl refl
