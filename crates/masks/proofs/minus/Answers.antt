-- `masks::minus` meets its contract. Assumes nothing.
use Rattle.masks.proofs.Laws.{bit_minus}
use Rattle.masks.proofs.minus.Goals as goal

pub returns : goal.returns
returns c = λ k. bit_minus 32 c.args.a c.args.b k c.ranges.a.fits c.ranges.b.fits
