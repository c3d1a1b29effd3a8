-- `search::heaviest::Weights::weigh` meets its contract. Assumes nothing.
use Rattle.std.proofs.Common.{arith, rules, sym, ap₂, ◌∙◌}
use Prim.Native.Nat.{◌+◌}
use Rattle.masks.specs.Sum.{sum_step, sum_none}
use Rattle.search.proofs.heaviest.Weights.weigh.Goals as goal

pub loop-i-init : goal.loop-i-init
loop-i-init c = (sym (sum_none _), search rules)

pub loop-i-preserved : goal.loop-i-preserved
loop-i-preserved c = let b = rw c.from.ensures at c.brought-sum.ensures.0 in
    (ap₂ ◌+◌ c.loop-i.invariant.0 b ∙ sym (sum_step _ _), omega (arith, c.brought-sum.ensures.1, c.loop-i.invariant.1))
