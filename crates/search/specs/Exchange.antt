-- One gives its place to another, which reaches it along a trail. Assumes nothing.
use Rattle.std.specs.Prelude.{◌≡◌, ℕ, ◌+◌, ◌≤◌, ◌<◌}
use Rattle.std.proofs.Common.{ap, arith}
use Rattle.std.proofs.Math.Decide.{ℕ_discrete}
use Rattle.matches.specs.Paper.{at}
use Rattle.search.specs.declared.pairing.Pairing.{Pairing}
use Rattle.search.specs.Pair.{Paired, Unlinked, Unlink}
use Rattle.search.specs.Stage.{Trail}
use Rattle.search.specs.Augment.{any, paired_any, trail_any, Ready, Augmented, trail_cut}
use Rattle.search.specs.Loss.{loss, loss_augmented, loss_unlinked}

-- the trail's one at h is to give its place to the first
pub record Giving (E : ℕ → ℕ → ℕ) (p : Pairing) (q f : ℕ → ℕ) (h : ℕ) : Type 0 where
  pub paired : Paired E p
  pub trail : Trail E (at p.mine) q f (h + 1)
  pub room : h < 32
  pub later : 0 < h
  pub first : 32 ≤ at p.mine (q 0)

pub giving_any : (E : ℕ → ℕ → ℕ) (p : Pairing) (q f : ℕ → ℕ) (h : ℕ) → Giving E p q f h → Giving any p q f h
giving_any E p q f h r = record {
  paired = paired_any E p r.paired;
  trail = trail_any E (at p.mine) q f (h + 1) r.trail;
  room = r.room;
  later = r.later;
  first = r.first;
}

-- u is matched and x is not; every other is matched if it was, and all in use that was
pub record Exchanged (E : ℕ → ℕ → ℕ) (p : Pairing) (u x : ℕ) (r : Pairing) : Type 0 where
  pub paired : Paired E r
  pub used : (k : ℕ) → k < 32 → at p.theirs k < 32 → at r.theirs k < 32
  pub loses : (w : ℕ → ℕ) → loss w (at r.mine) + w u ≡ loss w (at p.mine) + w x

module _ (E : ℕ → ℕ → ℕ) (p : Pairing) (q f : ℕ → ℕ) (h : ℕ) (v : Giving E p q f h) (p' : Pairing) (k : Unlink p (q h) p') where
  l : Unlinked (at p.mine) (at p.theirs) (q h) (at p'.mine) (at p'.theirs)
  l = k.changed

  in_x : q h < 32
  in_x = v.trail.within h (omega arith)

  has_x : at p.mine (q h) < 32
  has_x = v.trail.has h v.later (omega arith)

  less_x : f h < h
  less_x = v.trail.less h v.later (omega arith)

  earlier_x : (k : ℕ) → k < h → at p'.mine (q k) ≡ at p.mine (q k)
  earlier_x k lk = l.mine.other (q k) (v.trail.apart k h lk (omega arith))

  gives : Ready E p' q f (f h) (at p.mine (q h))
  gives = record {
    paired = k.keeps E v.paired;
    trail = trail_cut E (at p.mine) q f (at p'.mine) (h + 1) (f h + 1) v.trail (omega (arith, less_x)) (λ i li. earlier_x i (omega (arith, less_x)));
    room = omega (arith, less_x, v.room);
    out = has_x;
    asked = v.trail.asked h v.later (omega arith);
    vacant = l.gave has_x;
    first = omega (arith, earlier_x 0 v.later, v.first);
  }

  exchanged : (r : Pairing) → Augmented E p' (q 0) (at p.mine (q h)) r → Exchanged E p (q 0) (q h) r
  exchanged r a = record {
    paired = a.paired;
    used = λ k lk g. (elim (ℕ_discrete k (at p.mine (q h))) [
      | yes z ↦ omega (arith, ap (at r.theirs) z, a.new)
      | no d ↦ a.used k lk (omega (arith, l.others k d))
    ]);
    loses = λ w. omega (
      arith,
      loss_unlinked w (at p.mine) (at p.theirs) (q h) (at p'.mine) (at p'.theirs) in_x has_x l,
      loss_augmented E w p' (q 0) (at p.mine (q h)) r (v.trail.within 0 (omega arith)) (omega (arith, earlier_x 0 v.later, v.first)) a,
    );
  }

module _ (E : ℕ → ℕ → ℕ) (p : Pairing) (q f : ℕ → ℕ) (h : ℕ) (v : Giving E p q f h) (x o : ℕ) (ex : x ≡ q h) (eo : o ≡ at p.mine x) (p' : Pairing) (k : Unlink p x p') where
  pub gives_at : (g : ℕ) → g ≡ f h → Ready E p' q f g o
  gives_at g eg = rw (eg, eo, ex) (gives E p q f h v p' (rw ex at k))

  pub exchanged_at : (r : Pairing) → Augmented E p' (q 0) o r → Exchanged E p (q 0) (q h) r
  exchanged_at r a =
      let a' : Augmented E p' (q 0) (at p.mine (q h)) r = rw (eo, ex) at a in
      exchanged E p q f h v p' (rw ex at k) r a'
