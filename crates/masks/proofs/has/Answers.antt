-- `masks::has` meets its contract. Assumes nothing.
use mathlib.Core.Path.{sym}
use Rattle.masks.proofs.Laws.{has_law, bit_high, off_has}
use Rattle.masks.proofs.has.Goals as goal

pub returns-then-j-lt32 : goal.returns-then-j-lt32
returns-then-j-lt32 c = has_law c.args.m c.args.j

pub returns-else-j-lt32 : goal.returns-else-j-lt32
returns-else-j-lt32 c = sym (off_has c.args.m c.args.j (bit_high c.args.m 32 c.args.j c.ranges.m.fits c.if-j-lt32.false))
