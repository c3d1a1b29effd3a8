-- `masks::without` meets its contract. Assumes nothing.
use Rattle.masks.proofs.Laws.{without_law, without_none}
use Rattle.masks.proofs.without.Goals as goal

pub returns-then-j-lt32 : goal.returns-then-j-lt32
returns-then-j-lt32 c = without_law c.args.m c.args.j c.ranges.m.fits c.if-j-lt32.true

pub returns-else-j-lt32 : goal.returns-else-j-lt32
returns-else-j-lt32 c = without_none c.args.m c.args.j c.ranges.m.fits c.if-j-lt32.false
