-- The invariant: the trail up to h, whose one there requests the free j. Assumes nothing.
use Prim.Native.Nat.{ℕ}
use Rattle.search.specs.Reach.{port_at, finder_at}
use Rattle.search.specs.Augment.{Ready, Going}
use Rattle.search.proofs.reach.Search.augment.Given as goal

abbrev pub invariant-loop-h : goal.invariant-loop-h
invariant-loop-h l =
    (E : ℕ → ℕ → ℕ) → Ready E l.initial.p (port_at l.self) (finder_at l.self) l.last l.out → Going E l.initial.p l.out l.p (port_at l.self) (finder_at l.self) l.h l.j

abbrev pub decreases-loop-h : goal.decreases-loop-h
decreases-loop-h l = l.h
