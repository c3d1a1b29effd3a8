-- `matching::ranks::ranks` meets its contract. Assumes nothing.
use Rattle.std.proofs.Common.{◌≡◌, ◌∙◌, ap, arith, rules}
use lib.ListN.{get_or}
use Rattle.matches.specs.Paper.{at}
use Rattle.matching.specs.Fill.{passed_none, passed_here, passed_step, passed_all}
use Rattle.matching.specs.Ranks.{found_rank}
use Rattle.matching.proofs.ranks.ranks.Goals as goal

pub loop-i-init : goal.loop-i-init
loop-i-init c = (search rules, passed_none 32 _ _ (search rules))

pub loop-i-preserved : goal.loop-i-preserved
loop-i-preserved c = let i = c.loop-i.i in
    let here : get_or c.loop-i.weights i 0 ≡ at c.args.weights.now i = ap (λ l. at l i) c.loop-i.invariant.1 ∙ passed_here 32 i _ _ i c.loop-i-test.true (omega arith) in
    (search rules, passed_step 32 _ _ _ _ _ c.loop-i-test.true c.loop-i.invariant.1 ((rw (c.has.ensures, here) at c.rank.ensures) ∙ found_rank _ _ _ _ c.levels_of-levels.ensures i))

pub returns : goal.returns
returns c = let e : c.loop-i.i ≡ 32 = omega arith in (rw e at c.loop-i.invariant.1) ∙ passed_all 32 _ _
