-- The invariant: the candidates passed make the whole lighter. Assumes nothing.
use mathlib.Core.List.{List}
use Prim.Native.Nat.{ℕ}
use Rattle.search.specs.First.{State, Placing}
use Rattle.search.proofs.choice.Rest.fix.Given as goal

abbrev pub invariant-loop-j : goal.invariant-loop-j
invariant-loop-j l = (rows : List ℕ) → State l.whole.problem rows l.whole.weights.inputs l.whole.weights.outputs l.self l.i → Placing l.whole.problem rows l.whole.weights.inputs l.whole.weights.outputs l.self l.i l.j-iterator.left
