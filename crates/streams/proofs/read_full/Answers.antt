-- `streams::read_full` meets its contract. Assumes nothing.
use Rattle.std.proofs.Common.{◌≡◌, ℕ, ◌+◌, ◌-◌, ◌≤◌, List, ◌++◌, length, take, drop, ap, sym, ◌∙◌, subst, le_refl, drop_at, length-take-le, arith, rules}
use Rattle.std.proofs.lemmas.Slice.{take-put_mid_below}
use Rattle.std.specs.Io.KnownBytes.{Consumes}
use Rattle.std.proofs.KnownBytes.{Consumes-trans, Consumes-nil}
use borrow.Rule.Slice.PartMut.{put_mid, post_of}
use lib.Seq.{take-add, take-append-le}
use Rattle.streams.proofs.read_full.Goals as goal

-- n bytes read into the k places from a on: they follow the front, which stays
filled : (a k n : ℕ) (xs ys : List ℕ) → a ≤ length xs → n ≤ length ys → take a xs ++ take n ys ≡ take (a + n) (put_mid a k xs ys)
filled a k n xs ys within fits =
    let after = post_of a k xs in
    let part : take n (drop a (put_mid a k xs ys)) ≡ take n ys =
    ap (take n) (drop_at (take a xs) (ys ++ after) a (length-take-le a xs within)) ∙ take-append-le n ys after fits in
    ap (λ l. take a xs ++ l) (sym part)
    ∙ ap (λ l. l ++ take n (drop a (put_mid a k xs ys))) (sym (take-put_mid_below _ _ _ _ _ (le_refl _) within))
    ∙ sym (take-add a n (put_mid a k xs ys))

pub loop-done-preserved : goal.loop-done-preserved
loop-done-preserved g c =
    let r = c.read_some-more in
    let within = c.loop-done.invariant.inside in record {
      inside = search rules;
      next = subst (Consumes _ _) (filled _ _ r.result c.loop-done.room r.new.room within r.ensures.inside) (Consumes-trans _ _ _ _ _ c.loop-done.invariant.next r.ensures.next);
    }

pub returns-after-loop-done-clause-next : goal.returns-after-loop-done-clause-next
returns-after-loop-done-clause-next g c = c.loop-done.invariant.next

pub returns-then-more-eq0-clause-next : goal.returns-then-more-eq0-clause-next
returns-then-more-eq0-clause-next g c =
    let r = c.read_some-more in
    let at = c.loop-done.done in
    let left = length c.loop-done.room - at in
    let none : at + r.result ≡ at = omega (arith, c.if-more-eq0.true) in
    subst (Consumes _ _)
    (filled at left r.result c.loop-done.room r.new.room c.loop-done.invariant.inside r.ensures.inside ∙ ap (λ (n : ℕ). take n (put_mid at left c.loop-done.room r.new.room)) none)
    (Consumes-trans _ _ _ _ _ c.loop-done.invariant.next r.ensures.next)

pub loop-done-init : goal.loop-done-init
loop-done-init g c = record { inside = search rules; next = Consumes-nil _ }
