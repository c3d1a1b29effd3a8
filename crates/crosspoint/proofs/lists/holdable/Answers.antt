-- `crosspoint::lists::holdable` meets its contract. Assumes nothing.
use Rattle.std.proofs.Common.{◌≡◌, ◌∙◌, sym, ap, arith}
use mathlib.Core.Bool.{◌&&◌}
use lib.Dec.{ltb}
use Rattle.masks.specs.Tests.{every_step, every_none}
use Rattle.matches.specs.Paper.{at}
use Rattle.crosspoint.specs.Paper.{holdable}
use Rattle.crosspoint.proofs.lists.holdable.Goals as goal

pub loop-number-init : goal.loop-number-init
loop-number-init c = sym (every_none _)

pub loop-number-preserved : goal.loop-number-preserved
loop-number-preserved c =
    rw every_step (c.also-ok.ensures ∙ ap (λ b. b && ltb (at c.args.list.now c.loop-number.number-index) 65536) c.loop-number.invariant)

pub returns : goal.returns
unfolding holdable
returns c = let e : c.loop-number.number-index ≡ 1024 = omega (arith, c.requires, c.loop-number-test.false, c.loop-number.auto.number-index-end) in
    rw e at c.loop-number.invariant
