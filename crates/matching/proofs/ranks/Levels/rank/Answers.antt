-- `matching::ranks::Levels::rank` meets its contract: each smaller level counts once. Assumes nothing.
use Rattle.std.proofs.Common.{◌≡◌, ◌≤◌, ◌+◌, ◌∙◌, true, ap, length, rules, arith}
use Rattle.std.proofs.lemmas.List.{length-drop}
use Rattle.matches.specs.Paper.{smaller}
use Rattle.matching.specs.Ranks.{counted, counted_none, counted_smaller, counted_other, counted_few, counted_all}
use Rattle.matching.proofs.ranks.Levels.rank.Goals.{then-level-weight, else-level-weight}
use Rattle.matching.proofs.ranks.Levels.rank.Goals as goal

pub loop-level-init : goal.loop-level-init
loop-level-init c = counted_none _ _

pub overflow_add-rank : goal.overflow_add-rank
overflow_add-rank c =
    let at-loop = c.loop-level in
    let levels = c.distinct-levels.result.now in
    let weights : length c.args.self.now.weights ≡ 32 = search rules in
    let few : length levels ≤ 32 = omega (arith, weights, ap length c.distinct-levels.ensures, length-drop c.args.self.now.from c.args.self.now.weights) in
    omega (arith, few, at-loop.invariant, counted_few c.args.weight at-loop.level-index levels, c.loop-level-test.true)

pub loop-level-preserved : goal.loop-level-preserved
loop-level-preserved c =
    let at-loop = c.loop-level in
    let levels = c.distinct-levels.result.now in
    elim c.if-level-weight.branch [
      | then-level-weight w ↦ w.rank-is ∙ counted_smaller c.args.weight at-loop.level-index at-loop.rank levels at-loop.invariant w.if-level-weight.true
      | else-level-weight w ↦ w.rank-is ∙ counted_other c.args.weight at-loop.level-index at-loop.rank levels at-loop.invariant w.if-level-weight.false
    ]

pub returns : goal.returns
returns c =
    let at-loop = c.loop-level in
    let levels = c.distinct-levels.result.now in
    let x = c.args.weight in
    let passed : at-loop.level-index ≡ length levels = omega (arith, at-loop.auto.level-index-end, c.loop-level-test.false) in
    let asks : c.args.asks ≡ true = search rules in
    rw asks (at-loop.invariant ∙ ap (λ k. counted x k levels) passed ∙ counted_all x levels ∙ ap (λ l. 1 + smaller x l) c.distinct-levels.ensures)
