-- What a fold of a test says, place by place: of two lists of one length, whose entries stand together with their place. Assumes nothing.
use Rattle.std.specs.Prelude.{◌≡◌, refl, ℕ, Bool, true, ◌&&◌, List, length, get_or}
use Rattle.std.specs.List.{fold, enumerate_from, zip}
use Rattle.std.proofs.Common.{sym, ap, ◌∙◌, zero-add, arith}
use Rattle.std.proofs.lemmas.List.FromFn.{length-enumerate_from, get_or-enumerate_from}
use Rattle.masks.specs.Paper.{every}
use Rattle.masks.proofs.Chains.{every_of_fold, long_zip, at_zip}
use Rattle.matches.specs.Paper.{at}

module _ (p : ℕ → ℕ → ℕ → Bool) where
  abbrev test : ℕ × (ℕ × ℕ) → Bool
  test x = p x.0 x.1.0 x.1.1

  pub fold_every : (h c : List ℕ) → length h ≡ length c
      → fold (λ (ok : Bool) (x : ℕ × (ℕ × ℕ)). ok && p x.0 x.1.0 x.1.1) true (enumerate_from 0 (zip h c)) ≡ every (length h) (λ k. p k (at h k) (at c k))
  fold_every h c e =
      let long = long_zip (length h) h c refl (sym e) in
      every_of_fold (λ k. p k (at h k) (at c k)) test (enumerate_from 0 (zip h c)) (length h) (0, (0, 0)) (length-enumerate_from 0 (zip h c) ∙ long)
      (λ k l.
      ap test
      (get_or-enumerate_from 0 (zip h c) k (0, (0, 0)) (omega (arith, long))
      ∙ ap (λ (n : ℕ). (n, get_or (zip h c) k (0, 0))) (zero-add k)
      ∙ ap (λ (x : ℕ × ℕ). (k, x)) (at_zip (length h) h c k (0, 0) refl (sym e) l)))
