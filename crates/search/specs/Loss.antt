-- What those of mine without a partner weigh, and one more each: the measure of the settling. Assumes nothing.
use Rattle.std.specs.Prelude.{◌≡◌, cond, ℕ, ◌+◌, ◌≤◌, ◌<◌, ltb}
use Rattle.std.proofs.Common.{sym, ◌∙◌, arith, lt-ltb, le-ltb}
use Rattle.std.proofs.Math.Decide.{dec_lt}
use Rattle.masks.specs.Paper.{sum}
use Rattle.masks.specs.Sum.{sum_change, sum_cong}
use Rattle.matches.specs.Paper.{at}
use Rattle.search.specs.declared.pairing.Pairing.{Pairing}
use Rattle.search.specs.Pair.{Lacks, Unlinked}
use Rattle.search.specs.Augment.{Augmented}

unfoldable pub lack : (ℕ → ℕ) → (ℕ → ℕ) → ℕ → ℕ
lack w m i = cond (ltb (m i) 32) 0 (w i + 1)

abbrev pub loss : (ℕ → ℕ) → (ℕ → ℕ) → ℕ
loss w m = sum 32 (lack w m)

module _ (w m : ℕ → ℕ) (i : ℕ) where
  lack_in : m i < 32 → lack w m i ≡ 0
  unfolding lack
  lack_in l = rw (lt-ltb (m i) 32 l)

  lack_out : 32 ≤ m i → lack w m i ≡ w i + 1
  unfolding lack
  lack_out l = rw (le-ltb (m i) 32 l)

lack_same : (w m m' : ℕ → ℕ) (i : ℕ) → (m i < 32 → m' i < 32) → (m' i < 32 → m i < 32) → lack w m' i ≡ lack w m i
lack_same w m m' i a b = elim (dec_lt (m i) 32) [
  | yes l ↦ lack_in w m' i (a l) ∙ sym (lack_in w m i l)
  | no d ↦ lack_out w m' i (elim (dec_lt (m' i) 32) [ yes l ↦ absurd (d (b l)) | no d2 ↦ omega arith ]) ∙ sym (lack_out w m i (omega arith))
]

pub loss_augmented : (E : ℕ → ℕ → ℕ) (w : ℕ → ℕ) (p : Pairing) (u j : ℕ) (r : Pairing) → u < 32 → 32 ≤ at p.mine u → Augmented E p u j r
    → loss w (at r.mine) + (w u + 1) ≡ loss w (at p.mine)
loss_augmented E w p u j r lu fr a =
    omega (
      arith,
      sum_change 32 (lack w (at r.mine)) (lack w (at p.mine)) u lu (λ k lk d. lack_same w (at p.mine) (at r.mine) k (a.kept k lk) (a.only k lk d)),
      lack_out w (at p.mine) u fr,
      lack_in w (at r.mine) u a.here,
    )

pub loss_unlinked : (w m t : ℕ → ℕ) (x : ℕ) (m' t' : ℕ → ℕ) → x < 32 → m x < 32 → Unlinked m t x m' t' → loss w m' ≡ loss w m + (w x + 1)
loss_unlinked w m t x m' t' lx l a =
    omega (
      arith,
      sum_change 32 (lack w m') (lack w m) x lx (λ k lk d. (let s = a.mine.other k d in lack_same w m m' k (λ g. omega arith) (λ g. omega arith))),
      lack_in w m x l,
      lack_out w m' x (omega (arith, a.mine.here)),
    )

-- the loss is decided by who lacks a partner
pub loss_idle : (w m m' : ℕ → ℕ) (set : ℕ) → Lacks m set → Lacks m' set → loss w m' ≡ loss w m
loss_idle w m m' set a b =
    sum_cong 32 (lack w m') (lack w m) (λ k lk. lack_same w m m' k (λ l. lies a b k lk l) (λ l. lies b a k lk l))
  where
    lies : {f g : ℕ → ℕ} → Lacks f set → Lacks g set → (k : ℕ) → k < 32 → f k < 32 → g k < 32
    lies {f = f} {g = g} c d k lk l = elim (dec_lt (g k) 32) [
      | yes y ↦ y
      | no n ↦ absurd (omega (arith, c.off k lk l, d.on k lk (omega arith)))
    ]
